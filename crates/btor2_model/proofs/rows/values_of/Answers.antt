use Rattle.std.proofs.Common.{IsSome, subst, sym, ◌∙◌}
use Rattle.btor2_model.proofs.Selections.{map-more}
use Rattle.btor2_model.proofs.rows.values_of.Goals as goal

pub loop-id-preserved : goal.loop-id-preserved
loop-id-preserved c = λ all knows.
    c.in_ok-push.ensures.ok
    ∙ map-more all c.args.ids.now c.loop-id.id-index _ c.loop-id.found c.in-Some.value c.loop-id-test.true (c.loop-id.invariant all knows) (knows _ c.in-Some.value (sym c.get.ensures ∙ c.in-Some.is))

pub returns-in_default-clause-some : goal.returns-in_default-clause-some
returns-in_default-clause-some c = λ all. subst IsSome (sym c.get.ensures ∙ c.in_default.is) (all c.loop-id.id-index _ c.loop-id-test.true)
