use Rattle.std.proofs.Common.{◌≡◌, ◌<◌, ◌∷◌, List, false, length, subst, sym, ◌∙◌}
use Rattle.std.proofs.lemmas.List.Elements.{All-rest}
use Rattle.clause_check.specs.Propagation.{is_false}
use Rattle.clause_check.specs.declared.literal.Literal.{Literal}
use Rattle.clause_check.specs.inner.Values.{Agrees}
use Rattle.clause_check.proofs.Propagating.{deny_more, first_within}
use Rattle.clause_check.proofs.values.Values.deny.Goals as goal

pub loop-literal-preserved : goal.loop-literal-preserved
loop-literal-preserved c =
    let old = c.loop-literal.self.values.items in
    let new = c.assume.new.self.values.items in
    let inv = c.loop-literal.invariant in
    let cut = c.in-Some.ensures.cases.0 in
    let assumes = subst (λ (m : Literal). (t : List Literal) → Agrees old t → is_false t m ≡ false → Agrees new (m ∷ t)) c.negated.ensures c.in_ok-assume.ensures.assumed in
    record {
      count = c.in_ok-assume.ensures.count ∙ inv.count;
      within = All-rest (λ (l : Literal). l.variable < length c.args.self.now.values.items) c.in-Some.literal.now c.in-Some.others.now _ cut inv.within;
      denies = deny_more old new inv.denies.0 c.in-Some.literal.now c.loop-literal.rest.now c.in-Some.others.now _ cut
          (first_within _ _ c.in-Some.literal.now _ c.in-Some.others.now cut inv.within inv.count) (sym c.is_true.ensures ∙ c.if-is_true.false) assumes inv.denies.1 inv.denies.2;
    }
