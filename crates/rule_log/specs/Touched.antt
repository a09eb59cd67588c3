-- What the parts of a log keep to: the registers that have a flag are listed, and the list has room for every register.
use Rattle.std.specs.Prelude.{◌≡◌, ℕ, ◌*◌, ◌<◌, ◌≤◌, Bool, true, ◌==◌, List, length, slice_index_or, All}
use Rattle.std.specs.List.{count_by, list_any}
use Rattle.kw_bits.specs.BitVector.{BitVector}
use Rattle.typed_core.specs.declared.limits.TheConstants.{PORTS, MAX_REGISTERS}
use Rattle.rule_log.specs.Flags.{is_some}
use Rattle.rule_log.specs.declared.flags.PortFlags.{PortFlags}

-- the register is listed
abbrev pub is_listed : List ℕ → ℕ → Bool
is_listed touched register = list_any (λ (t : ℕ). t == register) touched

pub record IsSound (flags : List PortFlags) (values : List BitVector) (touched : List ℕ) (room : ℕ) : Type 0 where
  pub values_of_each : length values ≡ PORTS * length flags
  pub few : length flags ≤ MAX_REGISTERS
  pub room_for_all : length flags ≤ room
  pub no_more : length touched ≤ count_by is_some flags
  pub within : All (λ (t : ℕ). t < length flags) touched
  pub listed : (register : ℕ) → is_some (slice_index_or flags register (record { 0 = 0 })) ≡ true → is_listed touched register ≡ true
