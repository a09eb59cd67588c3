use Rattle.std.proofs.Common.{◌≡◌, ℕ, ◌<◌, get_or}
use Rattle.kw_bits.specs.BitVector.{BitVector}
use Rattle.one_rule.specs.Stimulus.{value_by}
use Rattle.one_rule.proofs.stimulus.line.are_inputs_by.Given as goal

-- each value so far is the input's by the line
abbrev pub invariant-loop-input : goal.invariant-loop-input
invariant-loop-input l =
    (k : ℕ) (d : BitVector) → k < l.input → get_or l.inputs k d ≡ value_by l.line k (get_or l.widths k 0)
