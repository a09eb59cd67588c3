use Rattle.std.specs.Prelude.{◌+◌, ◌*◌, max}
use Rattle.typed_core.proofs.action.Action.TheLaws.{the_size}
use Rattle.net_action.proofs.part.+part.Given as goal

abbrev pub decreases-part : goal.decreases-part
decreases-part g l = 3 * the_size l.action.now

abbrev pub decreases-operand : goal.decreases-operand
decreases-operand g l = 3 * the_size l.action.now + 1

abbrev pub decreases-unary : goal.decreases-unary
decreases-unary g l = 3 * the_size l.a.now + 2

abbrev pub decreases-binary : goal.decreases-binary
decreases-binary g l = 3 * max (the_size l.a.now) (the_size l.b.now) + 2

abbrev pub decreases-bound : goal.decreases-bound
decreases-bound g l = 3 * max (the_size l.value.now) (the_size l.body.now) + 2

abbrev pub decreases-sequence : goal.decreases-sequence
decreases-sequence g l = 3 * max (the_size l.first.now) (the_size l.second.now) + 2

abbrev pub decreases-written : goal.decreases-written
decreases-written g l = 3 * the_size l.a.now + 2

abbrev pub decreases-conditional : goal.decreases-conditional
decreases-conditional g l = 3 * max (the_size l.condition.now) (max (the_size l.first.now) (the_size l.second.now)) + 2
