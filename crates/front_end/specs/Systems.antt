-- The system that a typed design is: its rules, each of which does alone what its typed body does, and its scheduler.
-- It says nothing of the core or of a log.
use Rattle.std.specs.Prelude.{ℕ, List, [], length, map, Option, Some, None, slice_get}
use Rattle.kw_bits.specs.BitVector.{BitVector}
use Rattle.koika_types.specs.Values.{packed}
use Rattle.typed_core.specs.declared.outcome.Alone.{Alone}
use Rattle.typed_core.specs.declared.outcome.Outcome.TheVariants as ends
use Rattle.one_rule.specs.Cycle.{System}
use Rattle.one_rule.specs.Run.{InputsByCycle, run}
use Rattle.one_rule.specs.declared.rows.Row.{Row}
use Rattle.koika_check.specs.TypedAlone.{typed_alone}
use Rattle.koika_check.specs.declared.checked.Checked.{Checked}
use Rattle.koika_check.specs.declared.checked.Register.{Register}
use Rattle.koika_check.specs.declared.checked.CheckedRule.{CheckedRule}

-- what a rule of a typed design does alone, if there is one of the number
abbrev pub typed_alone_if : Checked → List BitVector → List BitVector → Option CheckedRule → Alone
typed_alone_if d inputs regs (Some rule) = typed_alone d inputs regs rule.body
typed_alone_if d inputs regs None = record { events = []; outcome = ends.Done }

-- a typed design's rules and nodes, as runs take them
abbrev pub system_of : Checked → System
system_of d =
    record {
      rules = length d.rules;
      alone = λ rule inputs regs. typed_alone_if d inputs regs (slice_get d.rules rule);
      nodes = d.nodes;
    }

-- the first values of its registers, packed
abbrev pub first_values : Checked → List BitVector
first_values d = map (λ (r : Register). packed r.first) d.registers

-- the run of a typed design for that many cycles, from its first values
abbrev pub run_of : Checked → InputsByCycle → ℕ → List Row
run_of d inputs cycles = run (system_of d) inputs (first_values d) 0 cycles
