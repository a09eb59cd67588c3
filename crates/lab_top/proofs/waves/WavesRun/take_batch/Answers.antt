use Rattle.std.proofs.Common.{◌≡◌, ◌+◌, ◌-◌, length, ap, sym, ◌∙◌, arith}
use Rattle.std.specs.Arc.{arc_value}
use Rattle.one_rule.specs.Cycle.{system_of}
use Rattle.one_rule.specs.Run.{first_values, last_registers, run}
use Rattle.one_rule.specs.Stimulus.{inputs_of}
use Rattle.one_rule.specs.declared.rows.Row.{Row}
use Rattle.one_rule.proofs.Runs.{rows_are_cycles}
use Rattle.lab_top.specs.inner.Registers.{registers_after}
use Rattle.lab_top.proofs.Registers.{last-row, left-more}
use Rattle.lab_top.proofs.WaveRuns.{taken-cycle}
use Rattle.lab_top.proofs.WavesOfSources.{batch-taken, batch-written, fits-design, fits-shape, given, levels-of}
use Rattle.lab_top.proofs.WavesOfSources.{made-fit, registers-fit}
use Rattle.lab_top.proofs.waves.WavesRun.take_batch.Goals as goal

pub run_from-requires-clause-stimulus : goal.run_from-requires-clause-stimulus
run_from-requires-clause-stimulus c =
    fits-design c.args.self.now.lowered _ _ c.deref-design.ensures c.deref-stimulus.ensures

pub run_from-requires-clause-registers : goal.run_from-requires-clause-registers
run_from-requires-clause-registers c =
    registers-fit c.args.self.now.lowered _ _ c.deref-design.ensures c.deref-stimulus.ensures c.recall.ensures
    c.recall-2.ensures c.args.from c.args.regs.now c.requires.registers

pub take-requires-clause-fits : goal.take-requires-clause-fits
take-requires-clause-fits c = levels-of c.args.self.now.lowered c.args.from c.args.waves.now c.requires.taken

pub take-requires-clause-some : goal.take-requires-clause-some
take-requires-clause-some c =
    let system = system_of c.deref-design.result.now in
    let inputs = inputs_of c.deref-stimulus.result.now in
    let many = rows_are_cycles system inputs c.args.regs.now c.args.from c.args.to in
    omega (arith, ap length c.in_ok-rows.ensures.run, many)

pub take-requires-clause-few : goal.take-requires-clause-few
take-requires-clause-few c =
    let it = c.args.self.now.lowered in
    let system = system_of c.deref-design.result.now in
    let inputs = inputs_of c.deref-stimulus.result.now in
    let many = rows_are_cycles system inputs c.args.regs.now c.args.from c.args.to in
    let at = taken-cycle it.checked (given it) c.args.from c.args.waves.now c.requires.taken.rows in
    omega (arith, at, c.requires.few, c.requires.order, ap length c.in_ok-rows.ensures.run, many)

pub take-requires-clause-rows : goal.take-requires-clause-rows
take-requires-clause-rows c =
    made-fit c.args.self.now.lowered _ _ c.deref-design.ensures c.deref-stimulus.ensures c.recall.ensures
    c.recall-2.ensures c.in_ok-rows.rows c.in_ok-rows.ensures.fit

pub take-requires-clause-inputs : goal.take-requires-clause-inputs
take-requires-clause-inputs c =
    fits-shape c.args.self.now.lowered _ _ c.deref-design.ensures c.deref-stimulus.ensures

pub returns-clause-text : goal.returns-clause-text
returns-clause-text c =
    batch-written c.args.self.now.lowered _ _ c.deref-design.ensures c.deref-stimulus.ensures c.recall.ensures
    c.recall-2.ensures c.args.from c.args.to c.requires.order c.args.regs.now c.in_ok-rows.rows c.requires.registers
    c.in_ok-rows.ensures.run c.args.waves.now _ c.in_ok-text.text c.requires.taken c.in_ok-text.ensures.takes

pub returns-clause-registers : goal.returns-clause-registers
returns-clause-registers c =
    let it = c.args.self.now.lowered in
    let design = arc_value it.design in
    let inputs = given it in
    let rows = c.in_ok-rows.rows in
    let before = registers_after design inputs c.args.from in
    let system = system_of c.deref-design.result.now in
    let many = rows_are_cycles system (inputs_of c.deref-stimulus.result.now) c.args.regs.now c.args.from c.args.to in
    let at : c.len.result - 1 + 1 ≡ length rows =
    omega (arith, c.len.ensures, ap length c.in_ok-rows.ensures.run, many) in
    let made : rows ≡ run (system_of design) inputs before c.args.from c.args.to =
    c.in_ok-rows.ensures.run
    ∙ (λ i. run (system_of (c.deref-design.ensures i)) (inputs_of (c.deref-stimulus.ensures i))
    (c.requires.registers i) c.args.from c.args.to)
    in
    c.in_ok-regs.ensures ∙ c.as_slice.ensures ∙ ap (λ (r : Row). r.regs) c.get-last.ensures
    ∙ sym (last-row before rows (c.len.result - 1) c.get-last.result.now at)
    ∙ ap (last_registers before) made
    ∙ left-more (system_of design) inputs (first_values design) c.args.from c.args.to c.requires.order

pub returns-clause-taken : goal.returns-clause-taken
returns-clause-taken c =
    batch-taken c.args.self.now.lowered _ _ c.deref-design.ensures c.deref-stimulus.ensures c.recall.ensures
    c.recall-2.ensures c.args.from c.args.to c.requires.order c.args.regs.now c.in_ok-rows.rows c.requires.registers
    c.in_ok-rows.ensures.run c.args.waves.now _ c.in_ok-text.text c.requires.taken c.in_ok-text.ensures.takes
    c.in_ok-text.ensures.fits
