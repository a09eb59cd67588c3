use Rattle.std.proofs.Common.{false, inl, inr}
use Rattle.std.specs.Arc.{arc_value}
use Rattle.one_rule.specs.Hosts.{host_specs}
use Rattle.front_end.proofs.Reading.{fault-of-part}
use Rattle.front_end.proofs.Told.{tells-refusal}
use Rattle.lab_top.specs.Answer.{lab}
use Rattle.lab_top.specs.Lint.{AnswersLint}
use Rattle.lab_top.specs.inner.Lint.{lint_text}
use Rattle.lab_top.specs.inner.Steps.{no_circuit}
use Rattle.lab_top.specs.declared.answer.LabAnswer.TheVariants.{Written}
use Rattle.lab_top.proofs.Answering.{embeds}
use Rattle.lab_top.proofs.Failing.{never-failed}
use Rattle.lab_top.proofs.Reading.{shows-lint}
use Rattle.lab_top.proofs.Telling.{text-told}
use Rattle.lab_top.proofs.program.remark.Goals as goal

pub write-requires : goal.write-requires
write-requires g c = c.in-Ok.ensures.noted.found

pub returns-in-Ok-clause-tells : goal.returns-in-Ok-clause-tells
returns-in-Ok-clause-tells g c =
    let run = c.in-Ok.run' in
    let is = c.in-Ok.ensures in
    let it = run.lowered in
    let text = lint_text it.checked run.places run.findings in
    inl (
      Written text,
      shows-lint (host_specs c.args.hosts.now) c.args.source.now it.checked (arc_value it.stimulus)
          (arc_value it.design) run.places run.findings is.spelled it.lowered is.valid is.noted,
      text-told no_circuit _ c.write.result c.status_by.result _ false text c.write.ensures c.status_by.ensures c.of.ensures,
    )

pub returns-in-Ok-clause-fails : goal.returns-in-Ok-clause-fails
returns-in-Ok-clause-fails g c failed = never-failed c.status_by.result _ c.of.ensures failed

pub returns-in-Err-clause-tells : goal.returns-in-Err-clause-tells
returns-in-Err-clause-tells g c =
    rw c.of-in-Err.ensures
    (tells-refusal (lab no_circuit) (embeds no_circuit false) (AnswersLint (host_specs c.args.hosts.now) c.args.source.now) _ _
    c.in-Err.refusal (fault-of-part _ _ c.in-Err.refusal (λ fault h. inr h) c.in-Err.ensures.refused) c.write_refusal.ensures)

pub returns-in-Err-clause-fails : goal.returns-in-Err-clause-fails
returns-in-Err-clause-fails g c failed = never-failed c.write_refusal.result _ c.of-in-Err.ensures failed
