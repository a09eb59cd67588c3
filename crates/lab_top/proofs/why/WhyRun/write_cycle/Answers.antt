use Rattle.std.proofs.Common.{◌≡◌, ◌-◌, List, ℕ, ap, sym, subst, ◌∙◌}
use Rattle.std.specs.Arc.{arc_value}
use Rattle.one_rule.specs.Cycle.{cycle, system_of}
use Rattle.one_rule.specs.Run.{first_values}
use Rattle.one_rule.specs.Stimulus.{AlwaysFits, InputVectors, inputs_of}
use Rattle.typed_core.specs.Valid.{IsValid}
use Rattle.typed_core.specs.Widths.{HaveWidths, input_widths, register_widths}
use Rattle.typed_core.specs.declared.design.Parts.{Parts}
use Rattle.front_end.proofs.Results.{on-ok-any}
use Rattle.front_end.proofs.Told.{told-as}
use Rattle.lab_core.specs.Why.{cycle_text}
use Rattle.lab_top.proofs.LabRuns.{core-fit, stimulus-fit, stimulus-wide, text-same}
use Rattle.lab_top.proofs.Registers.{left-fit, left-step}
use Rattle.lab_top.proofs.why.WhyRun.write_cycle.Goals as goal

pub why_cycle-requires-clause-inputs : goal.why_cycle-requires-clause-inputs
why_cycle-requires-clause-inputs g c =
    let it = c.args.self.now.lowered in
    subst (λ (ws : List ℕ). HaveWidths ws c.in_ok-inputs.inputs)
    (ap (λ (s : InputVectors). s.widths) c.deref-stimulus.ensures ∙ stimulus-wide it.checked (arc_value it.design) it.lowered _ it.stimulus_fits ∙ sym (ap input_widths c.deref-design.ensures))
    c.in_ok-inputs.ensures.fits

pub why_cycle-requires-clause-registers : goal.why_cycle-requires-clause-registers
why_cycle-requires-clause-registers g c =
    let it = c.args.self.now.lowered in
    let design = arc_value it.design in
    let stimulus = arc_value it.stimulus in
    let valid : IsValid design = subst IsValid c.deref-design.ensures c.recall.ensures in
    let fit = stimulus-fit it.checked stimulus it.stimulus_fits (subst AlwaysFits c.deref-stimulus.ensures c.recall-2.ensures) in
    subst (λ (d : Parts). HaveWidths (register_widths d) c.args.regs.now) (sym c.deref-design.ensures)
    (subst (HaveWidths (register_widths design)) (sym c.requires.registers)
    (left-fit design valid (inputs_of stimulus) (core-fit it.checked design it.lowered valid (inputs_of stimulus) fit) (c.args.cycle - 1)))

pub returns-clause-told : goal.returns-clause-told
returns-clause-told g c =
    let it = c.args.self.now.lowered in
    let only = c.args.self.now.only in
    let design = arc_value it.design in
    let stimulus = arc_value it.stimulus in
    let valid : IsValid design = subst IsValid c.deref-design.ensures c.recall.ensures in
    let fit = stimulus-fit it.checked stimulus it.stimulus_fits (subst AlwaysFits c.deref-stimulus.ensures c.recall-2.ensures) in
    let given : c.in_ok-inputs.inputs ≡ inputs_of stimulus c.args.cycle = c.in_ok-inputs.ensures.inputs ∙ ap (λ (s : InputVectors). inputs_of s c.args.cycle) c.deref-stimulus.ensures in
    told-as _ _ _ c.write_text.result
    (c.as_slice.ensures ∙ c.in_ok-text.ensures.text
    ∙ (λ i. cycle_text (c.deref-design.ensures i) only c.args.cycle (given i) (c.requires.registers i))
    ∙ text-same it.checked design it.lowered valid (inputs_of stimulus) fit only c.args.cycle)
    c.write_text.ensures

pub returns-clause-registers : goal.returns-clause-registers
returns-clause-registers g c =
    let it = c.args.self.now.lowered in
    let design = arc_value it.design in
    let stimulus = arc_value it.stimulus in
    let given : c.in_ok-inputs.inputs ≡ inputs_of stimulus c.args.cycle = c.in_ok-inputs.ensures.inputs ∙ ap (λ (s : InputVectors). inputs_of s c.args.cycle) c.deref-stimulus.ensures in
    on-ok-any c.write_text.result _
    (c.in_ok-text.ensures.registers
    ∙ (λ i. (cycle (system_of (c.deref-design.ensures i)) (given i) (c.requires.registers i)).regs)
    ∙ left-step (system_of design) (inputs_of stimulus) (first_values design) c.args.cycle c.requires.first)
