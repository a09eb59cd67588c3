use Rattle.koika_top.specs.Aigsim.{AnswersAigsim}
use Rattle.koika_top.proofs.Promises.{tells-aig-run}
use Rattle.koika_top.proofs.Answering.{tells-refusal}
use Rattle.koika_top.proofs.program.simulate_bits.Goals as goal

pub returns-in-Ok : goal.returns-in-Ok
returns-in-Ok g c =
    let run = c.in-Ok.run' in
    let is = c.in-Ok.ensures in
    rw c.status_by.ensures
    (tells-aig-run c.args.cycles run.cycles c.args.shown run.shown c.args.source.now run.aig run.stimulus is.run is.cycles is.shown _ c.write.result c.write.ensures)

pub returns-in-Err : goal.returns-in-Err
returns-in-Err g c =
    tells-refusal (AnswersAigsim c.args.cycles c.args.shown c.args.source.now) c.in-Err.refusal c.in-Err.ensures.refused _ _ c.write_refusal.ensures
