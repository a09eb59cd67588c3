use Rattle.std.proofs.Common.{List, [], ◌∷◌, ◌++◌, Some, ap, ap₂, arith, sym, ◌∙◌}
use Rattle.std.proofs.lemmas.Result.{err_from_is_err_and}
use Rattle.koika_check.specs.inner.Checking.{Takes, TypedAs, arrays_of, typing_of}
use Rattle.koika_check.specs.Constructs.{SelectedPart, postfix, take_part}
use Rattle.koika_check.specs.Outcomes.{Gives, ◌>>=◌, one_by_one}
use Rattle.koika_check.specs.Selections.{select}
use Rattle.koika_check.specs.inner.Shapes.{part_of}
use Rattle.koika_check.specs.Types.{TypedPart, part}
use Rattle.koika_check.specs.declared.typed.Selection.{Selection}
use Rattle.koika_check.proofs.Leaves.{tells-ends}
use Rattle.koika_check.proofs.Telling.{tells-ok}
use Rattle.koika_check.proofs.Turns.{ends-bind, ends-tells, one-ends, one-push}
use Rattle.koika_check.proofs.checker.Checker.postfix.Goals as goal

abbrev taken : TypedPart → List Selection → SelectedPart
taken whole selections = record { whole = whole; selections = selections }

pub returns-in_err-selected : goal.returns-in_err-selected
returns-in_err-selected c =
    let p = err_from_is_err_and c.from_residual.result c.from_residual.ensures.1 in
    let d = c.args.self.now.design in
    let arrays = arrays_of c.args.self.now in
    let before = taken (part_of arrays c.loop-suffix.whole) c.loop-suffix.selections in
    let first = taken (part_of arrays c.args.primary.part) [] in
    rw (p.1, p.2)
    (tells-ends (TypedAs c.args.self.now) (postfix d c.args.suffixes.now (typing_of c.args.self.now c.args.primary)) c.in_err-selected.field-0.0
    (ends-bind (one_by_one (take_part d) c.args.suffixes.now first) _ c.in_err-selected.field-0.0
    (one-ends (take_part d) c.args.suffixes.now c.loop-suffix.suffix-index c.suffix-item.result first before c.in_err-selected.field-0.0 (omega arith) c.suffix-item.is c.loop-suffix.invariant.1
    (ends-bind (select d before.whole c.suffix-item.result) _ c.in_err-selected.field-0.0
    (ends-tells (Takes c.args.self.now) (select d before.whole c.suffix-item.result) c.in_err-selected.field-0.0 c.in_err-selected.ensures)))))

pub loop-suffix-preserved : goal.loop-suffix-preserved
loop-suffix-preserved c =
    let d = c.args.self.now.design in
    let arrays = arrays_of c.args.self.now in
    let before = taken (part_of arrays c.loop-suffix.whole) c.loop-suffix.selections in
    let first = taken (part_of arrays c.args.primary.part) [] in
    let one = tells-ok (Takes c.args.self.now) (select d before.whole c.suffix-item.result) c.in_ok-selected.selected c.in_ok-selected.ensures in (
      one.2.1.1,
      one-push (take_part d) c.args.suffixes.now c.loop-suffix.suffix-index c.suffix-item.result first before (omega arith) c.suffix-item.is c.loop-suffix.invariant.1
          ∙ ap (λ o. o >>= λ s. Gives (taken (part (Some s.of) before.whole.place) (before.selections ++ s.selection ∷ []))) one.1
          ∙ ap₂ (λ t ss. Gives (taken (part (Some t) before.whole.place) ss)) one.2.1.0 (ap (λ s. before.selections ++ s ∷ []) one.2.0 ∙ sym c.in_ok-push.ensures.ok),
    )
