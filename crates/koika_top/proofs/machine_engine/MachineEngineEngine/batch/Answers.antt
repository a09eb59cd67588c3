use Rattle.std.proofs.Common.{◌-◌, ap, ◌∙◌}
use Rattle.one_rule.specs.Stimulus.{inputs_of}
use Rattle.koika_top.specs.inner.Engines.{rows_of}
use Rattle.koika_top.proofs.MachineRows.{batch-keeps, rows-in-batch, stands-next}
use Rattle.koika_top.proofs.machine_engine.MachineEngineEngine.batch.Goals as goal

pub returns-clause-rows : goal.returns-clause-rows
returns-clause-rows g c =
    let engine = c.args.self.now in
    c.in_ok-rows.ensures.rows
    ∙ rows-in-batch g.M.Machine.after_step g.M.Machine.input_widths engine.stimulus.now _ engine.machine engine.at c.args.to c.requires.stands c.requires.order g.M.Machine.row_at

pub returns-clause-same : goal.returns-clause-same
returns-clause-same g c =
    let engine = c.args.self.now in
    let kept = batch-keeps g.M.Machine.after_step g.M.Machine.input_widths engine.stimulus.now g.M.Begun.beginning g.met.M.Begun.keeps_beginning engine.machine _ (c.args.to - engine.at) engine.at c.in_ok-rows.ensures.machine in
    ap (rows_of g.M.Machine.after_step g.M.Machine.row_at (inputs_of engine.stimulus.now)) kept

pub returns-clause-stands : goal.returns-clause-stands
returns-clause-stands g c =
    let engine = c.args.self.now in
    let kept = batch-keeps g.M.Machine.after_step g.M.Machine.input_widths engine.stimulus.now g.M.Begun.beginning g.met.M.Begun.keeps_beginning engine.machine _ (c.args.to - engine.at) engine.at c.in_ok-rows.ensures.machine in
    stands-next g.M.Machine.after_step g.M.Machine.input_widths engine.stimulus.now _ engine.machine engine.at c.args.to c.requires.stands c.requires.order _ _ c.in_ok-rows.ensures.machine kept g.met.M.Machine.keeps_widths
