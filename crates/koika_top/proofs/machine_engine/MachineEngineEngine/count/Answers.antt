use Rattle.std.proofs.Common.{◌≡◌, ◌-◌, ◌∷◌, drop, refl, ap, sym, subst, ◌∙◌, arith}
use Rattle.circuit_eval.specs.Machines.{after_steps, rows_after}
use Rattle.one_rule.specs.Stimulus.{inputs_of}
use Rattle.stim_report.specs.Shapes.{RowFits, RowsFit}
use Rattle.koika_top.specs.inner.Engines.{rows_of}
use Rattle.koika_top.specs.inner.Telling.{TakesRows, closed, counted_all}
use Rattle.koika_top.proofs.Batches.{batch-fits}
use Rattle.koika_top.proofs.CountedRows.{takes-counted}
use Rattle.koika_top.proofs.MachineRows.{after-count, batch-keeps, last-regs, row-later, rows-in-batch, stands-next}
use Rattle.koika_top.proofs.machine_engine.MachineEngineEngine.count.Goals as goal

pub count_cycles-requires-clause-widths : goal.count_cycles-requires-clause-widths
count_cycles-requires-clause-widths g c = c.requires.stands.widths

pub count_cycles-requires-clause-fit : goal.count_cycles-requires-clause-fit
count_cycles-requires-clause-fit g c k =
    let engine = c.args.self.now in
    let shape = c.args.shape.now in
    subst (λ at. RowFits shape.registers shape.rules (g.M.Machine.row_at (after_steps g.M.Machine.after_step (inputs_of engine.stimulus.now) k at engine.machine))) c.requires.at
    (row-later g.M.Machine.after_step g.M.Machine.input_widths engine.stimulus.now _ engine.machine engine.at c.args.ends.to c.requires.stands (omega (arith, c.requires.at, c.requires.order)) g.M.Machine.row_at
    (RowFits shape.registers shape.rules) c.requires.fit k)

pub returns-clause-same : goal.returns-clause-same
returns-clause-same g c =
    let engine = c.args.self.now in
    let kept = batch-keeps g.M.Machine.after_step g.M.Machine.input_widths engine.stimulus.now g.M.Begun.beginning g.met.M.Begun.keeps_beginning engine.machine _ (c.args.ends.to - c.args.ends.from) c.args.ends.from c.in_ok-count_cycles.ensures.machine in
    ap (rows_of g.M.Machine.after_step g.M.Machine.row_at (inputs_of engine.stimulus.now)) kept

pub returns-clause-stands : goal.returns-clause-stands
returns-clause-stands g c =
    let engine = c.args.self.now in
    let at = c.requires.at in
    let made = c.in_ok-count_cycles.ensures.machine ∙ ap (λ from. after_steps g.M.Machine.after_step (inputs_of engine.stimulus.now) (c.args.ends.to - from) from engine.machine) (sym at) in
    let kept = batch-keeps g.M.Machine.after_step g.M.Machine.input_widths engine.stimulus.now g.M.Begun.beginning g.met.M.Begun.keeps_beginning engine.machine _ (c.args.ends.to - engine.at) engine.at made in
    stands-next g.M.Machine.after_step g.M.Machine.input_widths engine.stimulus.now _ engine.machine engine.at c.args.ends.to c.requires.stands (omega (arith, at, c.requires.order)) _ _ made kept g.met.M.Machine.keeps_widths

pub returns-clause-rows : goal.returns-clause-rows
returns-clause-rows g c marks =
    let engine = c.args.self.now in
    let shape = c.args.shape.now in
    let inputs = inputs_of engine.stimulus.now in
    let from = c.args.ends.from in
    let rest = rows_after g.M.Machine.after_step g.M.Machine.row_at inputs (c.args.ends.to - from) from engine.machine in
    let row = g.M.Machine.row_at engine.machine in
    let rows = rows_of g.M.Machine.after_step g.M.Machine.row_at inputs (g.M.Begun.beginning engine.machine) in
    let is : row ∷ rest ≡ drop from (rows c.args.ends.to) =
    ap (λ at. row ∷ rows_after g.M.Machine.after_step g.M.Machine.row_at inputs (c.args.ends.to - at) at engine.machine) (sym c.requires.at)
    ∙ rows-in-batch g.M.Machine.after_step g.M.Machine.input_widths engine.stimulus.now _ engine.machine engine.at c.args.ends.to c.requires.stands (omega (arith, c.requires.at, c.requires.order)) g.M.Machine.row_at
    ∙ ap (λ at. drop at (rows c.args.ends.to)) c.requires.at in
    let count = after-count g.M.Machine.after_step inputs g.M.Machine.row_at (c.args.ends.to - from) from engine.machine in
    let regs = last-regs g.M.Machine.after_step inputs g.M.Machine.row_at (c.args.ends.to - from) from engine.machine (omega (arith, c.requires.order)) in
    let closing = ap (λ m. (g.M.Machine.row_at m).regs) c.in_ok-count_cycles.ensures.machine ∙ sym regs in
    subst (TakesRows shape marks _ _) is
    (takes-counted shape marks _ _ row rest (omega (arith, count, c.requires.order)) (subst (RowsFit shape) (sym is) (batch-fits shape (rows c.args.ends.to) _ from (c.requires.fit c.args.ends.to) refl))
    (c.in_ok-count_cycles.ensures.teller ∙ ap (closed (counted_all c.args.teller.now rest)) closing))
