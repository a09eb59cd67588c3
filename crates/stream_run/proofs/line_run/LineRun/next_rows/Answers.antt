use Rattle.std.proofs.Common.{◌≡◌, ℕ, List, sym, ap, subst, ◌∙◌}
use Rattle.std.proofs.lemmas.Result.{IfOk-weaker}
use Rattle.std.specs.Arc.{arc_value}
use Rattle.typed_core.specs.Valid.{IsValid}
use Rattle.typed_core.specs.Widths.{input_widths}
use Rattle.typed_core.specs.declared.design.Parts.{Parts}
use Rattle.one_rule.specs.Cycle.{system_of}
use Rattle.one_rule.specs.Rows as core_rows
use Rattle.one_rule.specs.Run.{run}
use Rattle.one_rule.specs.Stimulus.{inputs_of}
use Rattle.one_rule.specs.declared.rows.Row.{Row}
use Rattle.stim_report.specs.Shapes.{RowsFit}
use Rattle.front_end.specs.Sources.{shape_of}
use Rattle.stream_run.proofs.Cycles.{one-cycle, rows-shown, stimulus-wide}
use Rattle.stream_run.proofs.line_run.LineRun.next_rows.Goals as goal

pub run_from-requires-clause-stimulus : goal.run_from-requires-clause-stimulus
run_from-requires-clause-stimulus c =
    let it = c.args.lowered.now in
    stimulus-wide it.checked (arc_value it.design) it.lowered c.args.stimulus.now.widths c.requires.widths ∙ sym (ap input_widths c.deref-design.ensures)

pub returns-clause-rows : goal.returns-clause-rows
returns-clause-rows c =
    let it = c.args.lowered.now in
    let design = arc_value it.design in
    let valid : IsValid design = subst IsValid c.deref-design.ensures c.recall.ensures in
    let inputs = inputs_of c.args.stimulus.now in
    let regs = c.args.self.now.regs in
    IfOk-weaker c.run_from.result (λ (rows : List Row). rows ≡ run (system_of c.deref-design.result.now) inputs regs 0 1) _
    (λ rows same.
    same ∙ ap (λ (parts : Parts). run (system_of parts) inputs regs 0 1) c.deref-design.ensures
    ∙ one-cycle it.checked design it.lowered valid c.args.stimulus.now c.requires.widths c.recall-2.ensures regs c.requires.fits)
    c.run_from.ensures.run

pub returns-clause-fit : goal.returns-clause-fit
returns-clause-fit c =
    let it = c.args.lowered.now in
    IfOk-weaker c.run_from.result (core_rows.RowsFit c.deref-design.result.now) (RowsFit (shape_of it.checked))
    (λ rows fit. rows-shown it.checked (arc_value it.design) it.lowered rows (subst (λ (parts : Parts). core_rows.RowsFit parts rows) c.deref-design.ensures fit))
    c.run_from.ensures.fit
