use Rattle.std.proofs.Common.{◌<◌, length, ap, refl, subst, sym, ◌∙◌}
use Rattle.std.proofs.lemmas.List.{nil_from_length}
use Rattle.std.proofs.lemmas.List.Elements.{All-rest}
use Rattle.clause_check.specs.declared.left.Left.{Left}
use Rattle.clause_check.specs.declared.literal.Literal.{Literal}
use Rattle.clause_check.specs.inner.Values.{LeftIsBelow}
use Rattle.clause_check.proofs.Propagating.{first_within, left_below, left_from, left_of-values}
use Rattle.clause_check.proofs.values.Values.left_of.Goals as goal

pub loop-literal-preserved : goal.loop-literal-preserved
loop-literal-preserved c =
    let of = c.args.self.now.values.items in
    let inv = c.loop-literal.invariant in
    let cut = c.in-Some.ensures.cases.0 in
    record {
      within = All-rest (λ (l : Literal). l.variable < length of) c.in-Some.literal.now c.in-Some.others.now _ cut inv.within;
      below = subst (LeftIsBelow (length of)) (sym c.left_and-left.ensures) (left_below (length of) _ c.loop-literal.left c.in-Some.literal.now inv.below (first_within _ _ c.in-Some.literal.now _ c.in-Some.others.now cut inv.within refl));
      same = ap (λ (x : Left). left_from of x c.in-Some.others.now) c.left_and-left.ensures ∙ sym (ap (left_from of c.loop-literal.left) cut) ∙ inv.same;
    }

pub returns-clause-left : goal.returns-clause-left
returns-clause-left c = λ trues agrees.
    let of = c.args.self.now.values.items in
    sym (ap (left_from of c.loop-literal.left) (nil_from_length _ c.in_default.ensures.cases)) ∙ c.loop-literal.invariant.same ∙ left_of-values of trues c.args.clause.now agrees c.requires
