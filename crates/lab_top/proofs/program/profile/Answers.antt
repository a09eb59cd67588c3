use Rattle.std.proofs.Common.{false, inl, inr}
use Rattle.one_rule.specs.Hosts.{host_specs}
use Rattle.front_end.proofs.Reading.{fault-of-part}
use Rattle.front_end.proofs.Told.{tells-refusal, told-as}
use Rattle.lab_top.specs.Answer.{lab}
use Rattle.lab_top.specs.Profile.{AnswersProfile}
use Rattle.lab_top.specs.inner.Steps.{no_circuit, text_if}
use Rattle.lab_top.proofs.Answering.{embeds}
use Rattle.lab_top.proofs.Failing.{failed-strictly, never-failed}
use Rattle.lab_top.proofs.Reading.{shows-profile}
use Rattle.lab_top.proofs.Telling.{text-told}
use Rattle.lab_top.proofs.program.profile.Goals as goal

pub returns-in-Ok-clause-tells : goal.returns-in-Ok-clause-tells
returns-in-Ok-clause-tells g c =
    let counted = c.in-Ok.counted in
    inl (
      text_if c.fails.result counted.text,
      shows-profile (host_specs c.args.hosts.now) c.args.cycles c.args.is_strict c.args.source.now counted.text counted.is_in_doubt c.fails.result c.fails.ensures c.in-Ok.ensures.counts,
      text-told no_circuit _ c.write_text.result c.status_by-ended.result _ c.fails.result counted.text (told-as _ _ _ c.write_text.result c.as_slice.ensures c.write_text.ensures) c.status_by-ended.ensures c.of.ensures,
    )

pub returns-in-Ok-clause-fails : goal.returns-in-Ok-clause-fails
returns-in-Ok-clause-fails g c failed =
    failed-strictly c.status_by-ended.result _ c.args.is_strict c.in-Ok.counted.is_in_doubt c.fails.result c.fails.ensures c.of.ensures failed

pub returns-in-Err-clause-tells : goal.returns-in-Err-clause-tells
returns-in-Err-clause-tells g c =
    rw c.of-in-Err.ensures
    (tells-refusal (lab no_circuit) (embeds no_circuit false) (AnswersProfile (host_specs c.args.hosts.now) c.args.cycles c.args.is_strict c.args.source.now) _ _ c.in-Err.refusal
    (fault-of-part _ _ c.in-Err.refusal (λ fault h. inr h) c.in-Err.ensures.refused) c.write_refusal.ensures)

pub returns-in-Err-clause-fails : goal.returns-in-Err-clause-fails
returns-in-Err-clause-fails g c failed = absurd (never-failed c.write_refusal.result _ c.of-in-Err.ensures failed)
