use Rattle.std.proofs.Common.{sym, ◌∙◌}
use Rattle.std.specs.Arc.{arc_value}
use Rattle.front_end.proofs.LoweredRuns.{inputs-wide}
use Rattle.source_runs.proofs.called.is_for_the_inputs.Goals as goal

pub returns : goal.returns
returns c =
    let it = c.args._lowered.now in
    it.stimulus_fits ∙ sym (inputs-wide it.checked (arc_value it.design) it.lowered)
