use Rattle.std.proofs.Common.{[], ◌∙◌, ap, sym}
use Rattle.std.proofs.lemmas.Result.{err_from_is_err_and}
use Rattle.koika_check.specs.Declarations.{add_field}
use Rattle.koika_check.specs.Outcomes.{Gives}
use Rattle.koika_check.specs.declared.checked.Checked.{Checked}
use Rattle.koika_check.proofs.Answering.{ends-same, step-err, step-ok}
use Rattle.koika_check.proofs.Fields.{in-parts-trans}
use Rattle.koika_check.proofs.checker.Checker.all_fields.Goals as goal

pub returns-in_err-next_field-clause-answers : goal.returns-in_err-next_field-clause-answers
returns-in_err-next_field-clause-answers c =
    let p = err_from_is_err_and c.from_residual.result c.from_residual.ensures.1 in
    let d = c.args.self.now.design in
    let f = c.field-item.result in
    let kept = c.loop-field.kept.fields in
    rw (p.1, p.2)
    (step-err (add_field d) c.args.fields.now c.loop-field.field-index f kept [] _ c.loop-field-test.true c.field-item.is c.loop-field.invariant.rest
    (ends-same (add_field d f kept) (add_field c.loop-field.self.design f kept) _ (ap (λ (e : Checked). add_field e f kept) (sym c.loop-field.invariant.grows.design)) c.in_err-next_field.ensures.answers))

pub loop-field-preserved : goal.loop-field-preserved
loop-field-preserved c =
    let d = c.args.self.now.design in
    let f = c.field-item.result in
    let kept = c.loop-field.kept.fields in
    let next = c.in_ok-next_field.ensures in
    let before = c.loop-field.invariant in
    record {
      checker = next.kept;
      grows = in-parts-trans c.args.self.now c.loop-field.self c.next_field.new.self before.grows next.grows;
      locals = next.locals ∙ before.locals;
      keeps = λ other name ne. next.keeps other name ne ∙ before.keeps other name ne;
      fields = next.fields;
      lists = next.lists;
      rest = step-ok (add_field d) c.args.fields.now c.loop-field.field-index f kept c.next_field.new.kept.fields [] c.loop-field-test.true c.field-item.is before.rest
          (ap (λ (e : Checked). add_field e f kept) (sym before.grows.design) ∙ next.answers.1 ∙ ap Gives (sym next.answers.2));
    }
