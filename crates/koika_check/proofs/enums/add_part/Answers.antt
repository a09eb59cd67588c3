use Rattle.std.proofs.Common.{Bool, List, ℕ, ap, sym, refl, subst, true, false, ◌∙◌}
use Rattle.std.specs.Prelude.{is_some}
use Rattle.koika_check.specs.inner.Things.{position_of}
use Rattle.koika_check.proofs.Listing.{Adds_part, false_true, other-name, part-lists, some-known}
use Rattle.koika_check.proofs.enums.add_part.Goals as goal

pub returns-then-branch-clause-answers : goal.returns-then-branch-clause-answers
returns-then-branch-clause-answers c names lists count =
    let old = c.args.parts.now in
    let n = c.args.name.now in
    let first = c.in_ok-add.ensures.first.0 c.if-branch.true in
    let none = ap (position_of old c.args.of) (sym c.as_slice.ensures) ∙ first in
    let adds = subst (λ (m : List ℕ). Adds_part old c.args.of m c.in_ok-position.position true c.add.new.self) c.as_slice.ensures
    (subst (λ (b : Bool). Adds_part old c.args.of c.as_slice.result.now c.in_ok-position.position b c.add.new.self) c.if-branch.true c.in_ok-add.ensures.added) in (
      n.text,
      other-name names n false (ap is_some (sym (lists n.text) ∙ none)),
      (refl, part-lists old c.add.new.self c.args.of n.text c.in_ok-position.position names adds lists (count ∙ sym c.in_ok-position.ensures.number) none),
    )

pub returns-else-branch-clause-answers : goal.returns-else-branch-clause-answers
returns-else-branch-clause-answers c names lists count =
    let old = c.args.parts.now in
    let n = c.args.name.now in
    rw c.repeated.ensures
    (other-name names n true (some-known _ (λ e. false_true (sym c.if-branch.false ∙ c.in_ok-add.ensures.first.1 (ap (position_of old c.args.of) c.as_slice.ensures ∙ lists n.text ∙ e)))))
