use Rattle.std.proofs.Common.{◌≡◌, map, refl, string_bytes, sym, ap}
use Rattle.one_rule.specs.Hosts.{host_specs}
use Rattle.front_end.specs.Program.{reads_source}
use Rattle.front_end.proofs.Promises.{kept-out_of_memory, kept-source, kept-unread, never-read, tells-source, tells-usage}
use Rattle.front_end.proofs.Told.{keeps-known}
use Rattle.lab_top.specs.Answer.{lab}
use Rattle.lab_top.specs.inner.Steps.{no_circuit}
use Rattle.lab_top.specs.declared.answer.LabAnswer.TheVariants.{Usage}
use Rattle.lab_top.specs.declared.status.LabStatus.TheVariants as statuses
use Rattle.lab_top.proofs.Answering.{agrees, definite}
use Rattle.lab_top.proofs.Failing.{fails-asked, kept-all, never-failed}
use Rattle.lab_top.proofs.Telling.{usage-told}
use Rattle.lab_top.proofs.program.answer_words.Goals as goal

pub returns-in-Ok-None : goal.returns-in-Ok-None
returns-in-Ok-None g c =
    let p = lab no_circuit in
    let asked = rw c.in-Ok-None.field-0-is at c.in-Ok-None.ensures.command in
    let told = usage-told no_circuit _ c.write_text.result c.status_by-ended.result _ c.write_text.ensures c.status_by-ended.ensures c.of.ensures in
    kept-all no_circuit _ _
    (kept-unread p (agrees no_circuit) (definite no_circuit) _ _ (ap (reads_source p) (sym asked)) refl
    (never-read p (agrees no_circuit) _ _ Usage told)
    (tells-usage p (definite no_circuit) (host_specs c.args.hosts.now) (map string_bytes c.args.words.now) _ _ _ asked Usage refl told))
    (λ failed. absurd (never-failed c.status_by-ended.result _ c.of.ensures failed))

pub returns-in-Ok-Some : goal.returns-in-Ok-Some
returns-in-Ok-Some g c =
    let told = c.answer_source.ensures.tells in
    let circuit = told.0 in
    let p = lab circuit in
    let asked = rw c.in-Ok-Some.field-0-is at c.in-Ok-Some.ensures.command in
    kept-all circuit _ _
    (kept-source p (agrees circuit) (definite circuit) _ _ (ap (reads_source p) (sym asked)) c.answer_source.ensures.whole c.answer_source.ensures.read_fault
    (tells-source p (definite circuit) (host_specs c.args.hosts.now) (map string_bytes c.args.words.now) _ _ _ c.in-Ok-Some.command asked refl told.1))
    (fails-asked c.in-Ok-Some.command _ _ (sym asked) c.answer_source.ensures.fails)

pub returns-in-Err : goal.returns-in-Err
returns-in-Err g c =
    kept-all no_circuit _ _
    (kept-out_of_memory (lab no_circuit) (agrees no_circuit) (definite no_circuit) _ _ refl (keeps-known _) refl)
    (λ failed. let bad : statuses.NoMemory ≡ statuses.Failed = failed in absurd cc)
