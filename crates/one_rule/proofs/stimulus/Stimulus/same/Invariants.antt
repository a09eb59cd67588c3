use Rattle.std.proofs.Common.{◌≡◌, ◌+◌, ◌<◌, ℕ}
use Rattle.one_rule.specs.Stimulus.{inputs_of}
use Rattle.one_rule.proofs.stimulus.Stimulus.same.Given as goal

-- the cycles so far have the same inputs
abbrev pub invariant-loop-before : goal.invariant-loop-before
invariant-loop-before l = (k : ℕ) → k < l.before → inputs_of l.self (k + 1) ≡ inputs_of l.other (k + 1)
