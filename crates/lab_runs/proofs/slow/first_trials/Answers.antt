use Rattle.std.proofs.Common.{List, ℕ, subst, sym, ◌∙◌}
use Rattle.typed_core.specs.Widths.{HaveWidths}
use Rattle.front_end.proofs.LoweredRuns.{inputs-wide}
use Rattle.lab_runs.proofs.slow.first_trials.Goals as goal

pub slow_trials-requires-clause-inputs : goal.slow_trials-requires-clause-inputs
slow_trials-requires-clause-inputs c =
    subst (λ (ws : List ℕ). HaveWidths ws c.in_ok-inputs.inputs)
    (c.requires.stimulus ∙ sym (inputs-wide c.args.checked.now c.args.design.now c.requires.lowered))
    c.in_ok-inputs.ensures.fits

pub trials-requires-clause-inputs : goal.trials-requires-clause-inputs
trials-requires-clause-inputs c =
    subst (λ (ws : List ℕ). HaveWidths ws c.in_ok-inputs.inputs)
    (c.requires.stimulus ∙ sym (inputs-wide c.args.checked.now c.args.design.now c.requires.lowered))
    c.in_ok-inputs.ensures.fits
