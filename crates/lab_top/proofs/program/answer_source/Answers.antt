use Rattle.std.proofs.Common.{Err, ap, inl, inr, refl}
use Rattle.one_rule.specs.Hosts.{host_specs}
use Rattle.front_end.proofs.Promises.{nothing-left, tells-long}
use Rattle.front_end.proofs.Told.{keeps-known}
use Rattle.lab_top.specs.Answer.{lab}
use Rattle.lab_top.specs.inner.Steps.{no_circuit}
use Rattle.lab_top.specs.declared.answer.LabAnswer.TheVariants.{Refused}
use Rattle.lab_top.proofs.Answering.{definite, read-told}
use Rattle.lab_top.proofs.Failing.{never-failed}
use Rattle.lab_top.proofs.Reading.{refuses-long}
use Rattle.lab_top.proofs.Telling.{fault-told}
use Rattle.lab_top.proofs.program.answer_source.Goals as goal

pub returns-in-Ok-clause-tells : goal.returns-in-Ok-clause-tells
returns-in-Ok-clause-tells g c =
    read-told (host_specs c.args.hosts.now) c.args.command _ _ _ _ _ _ c.in-Ok.ensures.all c.deref.ensures.value
    c.answer_bytes.ensures.tells

pub returns-in-Ok-clause-whole : goal.returns-in-Ok-clause-whole
returns-in-Ok-clause-whole g c done = nothing-left _ _ _ c.in-Ok.ensures.all

pub returns-in-Err-TooLong-clause-tells : goal.returns-in-Err-TooLong-clause-tells
returns-in-Err-TooLong-clause-tells g c =
    let hosts = host_specs c.args.hosts.now in
    let fault = c.fault_of_source-fault.result in (
      no_circuit,
      tells-long (lab no_circuit) (definite no_circuit) hosts c.args.command _ (Refused fault) tt
          (refuses-long no_circuit hosts c.args.command fault c.fault_of_source-fault.ensures) _ _ _
          (rw c.longest_source.ensures at c.in-Err-TooLong.ensures.longer (ap (λ e. Err e) c.in-Err-TooLong.field-0-is))
          (fault-told no_circuit _ c.write_fault.result c.status_by-ended.result _ fault c.write_fault.ensures
          c.status_by-ended.ensures c.of.ensures),
    )

pub returns-in-Err-Fault-clause-tells : goal.returns-in-Err-Fault-clause-tells
returns-in-Err-Fault-clause-tells g c = (no_circuit, inr (keeps-known _, inl refl))

pub returns-clause-tells : goal.returns-clause-tells
returns-clause-tells g c = (no_circuit, inr (keeps-known _, inr refl))

pub returns-in-Err-TooLong-clause-fails : goal.returns-in-Err-TooLong-clause-fails
returns-in-Err-TooLong-clause-fails g c failed =
    absurd (never-failed c.status_by-ended.result _ c.of.ensures failed)
