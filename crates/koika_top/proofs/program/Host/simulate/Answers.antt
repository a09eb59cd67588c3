use Rattle.std.proofs.Common.{inr}
use Rattle.one_rule.specs.Hosts.{host_specs}
use Rattle.koika_top.specs.Sim.{AnswersSim}
use Rattle.koika_top.proofs.Promises.{tells-run}
use Rattle.front_end.proofs.Reading.{fault-of-part}
use Rattle.koika_top.proofs.Answering.{tells-refusal}
use Rattle.koika_top.proofs.program.Host.simulate.Goals as goal

pub returns-in-Ok : goal.returns-in-Ok
returns-in-Ok g c =
    let run = c.in-Ok.run' in
    rw c.status_by.ensures
    (tells-run (host_specs c.args.self.now.hosts.now) c.args.cycles run.cycles c.args.shown run.shown c.args.source.now _ _ c.in-Ok.ensures.run run.within c.in-Ok.ensures.cycles c.in-Ok.ensures.shown _ c.write.result c.write.ensures)

pub returns-in-Err : goal.returns-in-Err
returns-in-Err g c =
    tells-refusal (AnswersSim (host_specs c.args.self.now.hosts.now) c.args.cycles c.args.shown c.args.source.now) c.in-Err.refusal
    (fault-of-part _ _ c.in-Err.refusal (λ fault h. inr h) c.in-Err.ensures.refused) _ _ c.write_refusal.ensures
