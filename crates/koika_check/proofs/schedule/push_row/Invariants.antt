use Rattle.std.proofs.Common.{◌≡◌, ◌+◌, ◌++◌, List, length, drop}
use Rattle.koika_check.specs.inner.Paths.{is_end}
use Rattle.koika_check.specs.Schedule.{in_a_row}
use Rattle.typed_core.specs.declared.design.Node.{Node}
use Rattle.koika_check.proofs.schedule.push_row.Given as goal

abbrev pub invariant-loop-index : goal.invariant-loop-index
invariant-loop-index l =
    ((behind : List Node) → is_end behind ≡ l.fn.is_last → l.made ++ in_a_row (length l.made) (drop l.index l.rules) behind ≡ l.fn.made ++ in_a_row (length l.fn.made) l.rules behind) ×
    (length l.made ≡ length l.fn.made + l.index)
