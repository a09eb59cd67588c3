use Rattle.std.proofs.Common.{ℕ, List, subst}
use Rattle.typed_core.specs.Widths.{HaveWidths}
use Rattle.one_rule.specs.Stimulus.{inputs_of}
use Rattle.one_rule.proofs.laws.a_stimulus_gives_inputs_that_fit.Goals as goal

pub returns : goal.returns
returns c design stimulus fits always k = subst (λ (widths : List ℕ). HaveWidths widths (inputs_of stimulus k)) fits (always k)
