use Rattle.btor2_text.proofs.Arguments.{SoFar-next, SoFar-none, SoFar-end}
use Rattle.std.proofs.Common.{sym, ◌∙◌}
use Rattle.std.proofs.lemmas.Bool.{false≢true}
use Rattle.btor2_text.specs.declared.kind.ArgumentKind.TheVariants as kinds
use Rattle.btor2_text.proofs.argument.has_minus.Goals as goal

pub loop-kind-preserved : goal.loop-kind-preserved
loop-kind-preserved c =
    SoFar-next _ _ _ _ c.loop-kind.invariant _ c.loop-kind-test.true _ _ c.in-Some.ensures.found (λ negative. false≢true (sym c.if-is_negative.false ∙ c.is_negative.ensures.1 negative))

pub returns-in_default : goal.returns-in_default
returns-in_default c = (
  λ never. absurd (false≢true never),
  λ has. absurd (SoFar-none _ _ _ _ c.loop-kind.invariant kinds.Number c.loop-kind-test.true c.in_default.ensures.absent has),
)

pub returns : goal.returns
returns c = (
  λ never. absurd (false≢true never),
  λ has. absurd (SoFar-end _ _ _ _ c.loop-kind.invariant c.loop-kind-test.false has),
)
