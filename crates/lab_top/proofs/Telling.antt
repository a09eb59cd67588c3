-- How the lab ends where a text that is shared by programs was told.
use Rattle.std.proofs.Common.{◌≡◌, List, ℕ, Bool, false, Result, sym, ap, subst, ◌∙◌}
use Rattle.kw_base.specs.FaultLine.{line_of_fault}
use Rattle.kw_base.specs.declared.fault.Fault.{Fault}
use Rattle.aig_blast.specs.Aigs.{AigParts}
use Rattle.front_end.specs.Streams.{Stream}
use Rattle.front_end.specs.Told.{Told, status_by}
use Rattle.front_end.specs.declared.answer.Answer.TheVariants as plain_answers
use Rattle.front_end.specs.declared.status.Status.{Status}
use Rattle.front_end.specs.declared.status.Status.TheVariants as plain_statuses
use Rattle.front_end.specs.declared.untold.Untold.{Untold}
use Rattle.front_end.specs.inner.Steps.{TellsOne}
use Rattle.front_end.proofs.Told.{tells-one, told-done, told-refused, told-usage}
use Rattle.lab_top.specs.Answer.{lab, usage_line}
use Rattle.lab_top.specs.inner.Steps.{status_if, text_if}
use Rattle.lab_top.specs.declared.answer.LabAnswer.TheVariants.{Usage, Refused}
use Rattle.lab_top.specs.declared.status.LabStatus.{LabStatus}
use Rattle.lab_top.proofs.Answering.{embeds}

module _ (circuit : AigParts) (s : Stream) (r : Result (Unit {0}) Untold) (ended : Status) (result : LabStatus) where
  -- how to use the lab
  pub usage-told : Told usage_line s r → ended ≡ status_by r plain_statuses.Usage → result ≡ status_if false ended → TellsOne (lab circuit) Usage s result
  usage-told told by of =
      subst (TellsOne (lab circuit) Usage s) (sym (of ∙ ap (status_if false) by)) (tells-one (lab circuit) (embeds circuit false) plain_answers.Usage s (status_by r plain_statuses.Usage) (told-usage usage_line s r told))

  -- a fault
  pub fault-told : (fault : Fault) → Told (line_of_fault fault) s r → ended ≡ status_by r plain_statuses.Refused → result ≡ status_if false ended → TellsOne (lab circuit) (Refused fault) s result
  fault-told fault told by of =
      subst (TellsOne (lab circuit) (Refused fault) s) (sym (of ∙ ap (status_if false) by)) (tells-one (lab circuit) (embeds circuit false) (plain_answers.Refused fault) s (status_by r plain_statuses.Refused) (told-refused (line_of_fault fault) s r told))

  -- a text, of a failure or not
  pub text-told : (fails : Bool) (text : List ℕ) → Told text s r → ended ≡ status_by r plain_statuses.Done → result ≡ status_if fails ended → TellsOne (lab circuit) (text_if fails text) s result
  text-told fails text told by of =
      subst (TellsOne (lab circuit) (text_if fails text) s) (sym (of ∙ ap (status_if fails) by)) (tells-one (lab circuit) (embeds circuit fails) (plain_answers.Written text) s (status_by r plain_statuses.Done) (told-done text s r told))
