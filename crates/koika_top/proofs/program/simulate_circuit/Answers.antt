use Rattle.koika_top.specs.Btorsim.{AnswersBtorsim}
use Rattle.koika_top.proofs.Promises.{tells-circuit-run}
use Rattle.koika_top.proofs.Answering.{tells-refusal}
use Rattle.koika_top.proofs.program.simulate_circuit.Goals as goal

pub returns-in-Ok : goal.returns-in-Ok
returns-in-Ok g c =
    let run = c.in-Ok.run' in
    let found = c.in-Ok.ensures.run in
    rw c.status_by.ensures
    (tells-circuit-run c.args.cycles run.cycles c.args.shown run.shown c.args.source.now found.0 _ found.1 found.3 c.in-Ok.ensures.cycles c.in-Ok.ensures.shown _ c.write.result (c.write.ensures found.0 found.2))

pub returns-in-Err : goal.returns-in-Err
returns-in-Err g c =
    tells-refusal (AnswersBtorsim c.args.cycles c.args.shown c.args.source.now) c.in-Err.refusal c.in-Err.ensures.refused _ _ c.write_refusal.ensures
