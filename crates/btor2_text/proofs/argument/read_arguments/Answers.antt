use Rattle.btor2_text.proofs.Arguments.{Reached-next, Reached-none, Reached-end, Reached-start}
use Rattle.btor2_text.specs.declared.kind.ArgumentKind.TheVariants as kinds
use Rattle.btor2_text.proofs.argument.read_arguments.Goals as goal

pub loop-kind-preserved : goal.loop-kind-preserved
loop-kind-preserved c =
    rw c.in_ok-push.ensures.items
    (Reached-next _ _ _ _ _ c.loop-kind.invariant _ c.loop-kind-test.true _ _ c.in-Some.ensures.found _ c.in_ok-read_argument.ensures)

pub loop-kind-init : goal.loop-kind-init
loop-kind-init c = rw c.in_ok-arguments.ensures.items (Reached-start _ _)

pub returns-in_default : goal.returns-in_default
returns-in_default c = λ arguments. Reached-none _ _ _ _ _ c.loop-kind.invariant kinds.Number c.loop-kind-test.true c.in_default.ensures.absent arguments

pub returns : goal.returns
returns c = rw c.from_vec.ensures (Reached-end _ _ _ _ _ c.loop-kind.invariant c.loop-kind-test.false)
