use Rattle.std.proofs.Common.{ℕ, ◌∙◌, ap, sym}
use Rattle.std.proofs.lemmas.Result.{err_from_is_err_and}
use Rattle.koika_check.specs.Checks.{limits}
use Rattle.koika_check.specs.Outcomes.{Condition, unless}
use Rattle.koika_check.specs.Sizes.{design_size}
use Rattle.koika_check.specs.declared.checked.Checked.{Checked}
use Rattle.koika_check.specs.declared.measure.Measure.{Measure}
use Rattle.koika_check.proofs.Telling.{passes-ok}
use Rattle.koika_check.proofs.Wholes.{limits-end, weight-within}
use Rattle.koika_check.proofs.answer.within_limits.Goals as goal

pub returns-in_err-refuse : goal.returns-in_err-refuse
returns-in_err-refuse c =
    let p = err_from_is_err_and c.from_residual-in_err-refuse.result c.from_residual-in_err-refuse.ensures.1 in
    let size = design_size c.args.design in
    let d : Checked = record c.args.design { weight = size.weight } in
    rw (p.1, p.2) (limits-end _ c.limits.result (limits c.args.tree.now size) d _ (c.limits.ensures size c.in_ok-measure.ensures) c.in_err-refuse.ensures)

pub returns : goal.returns
returns c =
    let size = design_size c.args.design in
    let weighing = λ (w : ℕ). let d : Checked = record c.args.design { weight = w } in d in
    let kept = sym (c.limits.ensures size c.in_ok-measure.ensures) ∙ passes-ok c.limits.result c.in_ok-refuse.field-0 c.in_ok-refuse.ensures in (
      weighing size.weight,
      ap (λ (k : Condition). unless k (weighing size.weight)) kept,
      ap weighing (ap (λ (m : Measure). m.weight) c.in_ok-measure.ensures ∙ weight-within c.args.tree.now size kept),
    )
