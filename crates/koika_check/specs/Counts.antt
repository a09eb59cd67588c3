-- What `check` tells of a design: how many registers, rules and scheduler nodes it has, and its weight.
use Rattle.std.specs.Prelude.{length}
use Rattle.koika_check.specs.declared.checked.Checked.{Checked}
use Rattle.koika_check.specs.declared.counts.Counts.{Counts}

-- the counts of a design
abbrev pub counts_of : Checked → Counts
counts_of d = record { registers = length d.registers; rules = length d.rules; nodes = length d.nodes; weight = d.weight }
