use Rattle.std.proofs.Common.{[], ap, length, arith}
use Rattle.one_rule.specs.Stimulus.{inputs_of}
use Rattle.lab_top.proofs.WaveRuns.{first-cycle}
use Rattle.lab_top.proofs.WavesOfSources.{first-taken, fits-design, fits-shape, made-fit}
use Rattle.lab_top.proofs.waves.WavesRun.begin.Goals as goal

pub run_from-requires-clause-stimulus : goal.run_from-requires-clause-stimulus
run_from-requires-clause-stimulus c =
    fits-design c.args.self.now.lowered _ _ c.deref-design.ensures c.deref-stimulus.ensures

pub take-requires-clause-some : goal.take-requires-clause-some
take-requires-clause-some c = omega (arith, ap length c.in_ok-rows.ensures.run)

pub take-requires-clause-few : goal.take-requires-clause-few
take-requires-clause-few c =
    let inputs = inputs_of c.deref-stimulus.result.now in
    let none = first-cycle c.args.self.now.lowered.shape inputs _ (c.in_ok-waves.ensures.none inputs) in
    omega (arith, none, ap length c.in_ok-rows.ensures.run)

pub take-requires-clause-rows : goal.take-requires-clause-rows
take-requires-clause-rows c =
    made-fit c.args.self.now.lowered _ _ c.deref-design.ensures c.deref-stimulus.ensures c.recall.ensures
    c.recall-2.ensures c.in_ok-rows.rows c.in_ok-rows.ensures.fit

pub take-requires-clause-inputs : goal.take-requires-clause-inputs
take-requires-clause-inputs c =
    fits-shape c.args.self.now.lowered _ _ c.deref-design.ensures c.deref-stimulus.ensures

pub returns : goal.returns
returns c =
    let inputs = inputs_of c.deref-stimulus.result.now in
    first-taken c.args.self.now.lowered _ _ c.deref-design.ensures c.deref-stimulus.ensures c.recall.ensures
    c.recall-2.ensures c.in_ok-regs.regs c.in_ok-rows.rows c.in_ok-regs.ensures.values c.in_ok-rows.ensures.run _ _
    (c.in_ok-take.ensures.takes [] (c.in_ok-waves.ensures.none inputs) tt) c.in_ok-take.ensures.fits
