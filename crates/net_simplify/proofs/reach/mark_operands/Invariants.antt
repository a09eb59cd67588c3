use Rattle.std.proofs.Common.{◌-◌, length}
use Rattle.net_simplify.specs.inner.Passes.{Closes}
use Rattle.net_simplify.proofs.reach.mark_operands.Given as goal

abbrev pub invariant-loop-done : goal.invariant-loop-done
invariant-loop-done l = Closes l.ops (length l.ops - l.done) l.fn.serves l.serves
