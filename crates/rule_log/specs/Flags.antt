-- Where the flags of reads and of writes are in a byte: read 0 lowest, a write above the reads.
use Rattle.std.specs.Prelude.{ℕ, ◌+◌, Bool, true, false, ◌==◌, not}
use Rattle.std.specs.Int.{bit_at}
use Rattle.typed_core.specs.declared.limits.TheConstants.{PORTS}
use Rattle.rule_log.specs.declared.flags.PortFlags.{PortFlags}

-- the bit of an access at a port; true says a write
abbrev pub place : Bool → ℕ → ℕ
place true port = PORTS + port
place false port = port

-- the flag of an access at a port is set
abbrev pub has : PortFlags → Bool → ℕ → Bool
has flags write port = bit_at flags.0 (place write port) == 1

-- some flag is set
abbrev pub is_some : PortFlags → Bool
is_some flags = not (flags.0 == 0)
