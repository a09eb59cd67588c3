use Rattle.std.proofs.Common.{ap, sym, ◌∙◌}
use Rattle.std.specs.Arc.{arc_value}
use Rattle.one_rule.specs.Stimulus.{InputVectors}
use Rattle.typed_core.specs.Widths.{input_widths}
use Rattle.lab_top.proofs.LabRuns.{stimulus-wide}
use Rattle.lab_top.proofs.why.WhyRun.registers_before.Goals as goal

pub registers_after-requires-clause-stimulus : goal.registers_after-requires-clause-stimulus
registers_after-requires-clause-stimulus c =
    let it = c.args.self.now.lowered in
    ap (λ (s : InputVectors). s.widths) c.deref-stimulus.ensures ∙ stimulus-wide it.checked (arc_value it.design) it.lowered _ it.stimulus_fits ∙ sym (ap input_widths c.deref-design.ensures)
