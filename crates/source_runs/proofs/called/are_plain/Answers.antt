use Rattle.std.proofs.Common.{sym, ap, ◌∙◌}
use Rattle.std.specs.Arc.{arc_value}
use Rattle.typed_core.specs.Valid.{externs_of}
use Rattle.typed_core.specs.Widths.{input_widths}
use Rattle.one_rule.specs.Externs.{kept}
use Rattle.one_rule.specs.Stimulus.{InputVectors}
use Rattle.front_end.proofs.LoweredRuns.{inputs-wide}
use Rattle.source_runs.proofs.called.are_plain.Goals as goal

pub run-requires-clause-externs : goal.run-requires-clause-externs
run-requires-clause-externs c = ap kept c.deref-externs.ensures ∙ c.args.lowered.now.externs_fit ∙ sym (ap externs_of c.deref-design.ensures)

pub run-requires-clause-stimulus : goal.run-requires-clause-stimulus
run-requires-clause-stimulus c =
    let it = c.args.lowered.now in
    ap (λ (s : InputVectors). s.widths) c.deref-stimulus.ensures ∙ it.stimulus_fits ∙ sym (inputs-wide it.checked (arc_value it.design) it.lowered) ∙ sym (ap input_widths c.deref-design.ensures)
