use Rattle.std.proofs.Common.{sym, ap, ◌∙◌}
use Rattle.one_rule.specs.Stimulus.{InputVectors}
use Rattle.source_runs.proofs.called.rows_by_gates.Goals as goal

pub run_aig-requires : goal.run_aig-requires
run_aig-requires c = ap (λ (s : InputVectors). s.widths) c.deref-stimulus.ensures ∙ c.args.lowered.now.stimulus_fits ∙ sym c.in_ok-aig.ensures.input_widths
