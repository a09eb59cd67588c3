use Rattle.std.proofs.Common.{inr}
use Rattle.std.specs.Arc.{arc_value}
use Rattle.one_rule.specs.Hosts.{host_specs}
use Rattle.koika_top.specs.Journal.{AnswersJournal}
use Rattle.koika_top.proofs.Promises.{tells-journal}
use Rattle.front_end.proofs.Reading.{fault-of-part}
use Rattle.koika_top.proofs.Answering.{tells-refusal}
use Rattle.koika_top.proofs.program.Host.write_journal.Goals as goal

pub returns-in-Ok : goal.returns-in-Ok
returns-in-Ok g c =
    let run = c.in-Ok.run' in
    rw c.status_by.ensures
    (tells-journal (host_specs c.args.self.now.hosts.now) c.args.cycles run.cycles c.args.workers run.workers c.args.source.now _ _ (arc_value run.lowered.design) c.in-Ok.ensures.run run.lowered.lowered c.in-Ok.ensures.cycles c.in-Ok.ensures.workers _ c.write.result c.write.ensures)

pub returns-in-Err : goal.returns-in-Err
returns-in-Err g c =
    tells-refusal (AnswersJournal (host_specs c.args.self.now.hosts.now) c.args.cycles c.args.workers c.args.source.now) c.in-Err.refusal
    (fault-of-part _ _ c.in-Err.refusal (λ fault h. inr h) c.in-Err.ensures.refused) _ _ c.write_refusal.ensures
