use Rattle.std.proofs.Common.{◌≡◌, ◌++◌, take}
use Rattle.std.specs.List.{filter, flat_map}
use Rattle.lab_core.specs.Why.{is_asked, trial_line}
use Rattle.lab_core.specs.declared.trial.Trial.{Trial}
use Rattle.lab_core.proofs.why.push_trials.Given as goal

abbrev pub invariant-loop-trial : goal.invariant-loop-trial
invariant-loop-trial l = l.text ≡ l.fn.text ++ flat_map (trial_line l.design) (filter (λ (t : Trial). is_asked l.only t.rule) (take l.trial-index l.tried))
