use Rattle.std.proofs.Common.{◌≡◌, ◌<◌, ℕ, length, take}
use Rattle.std.specs.Prelude.{slice_index_or}
use Rattle.board_core.specs.inner.Counts.{weight}
use Rattle.board_core.proofs.counted.weights_of.Given as goal

-- the nodes so far are counted
abbrev pub invariant-loop-number : goal.invariant-loop-number
invariant-loop-number l =
    record {
      count : length l.weights.items ≡ length l.design.rules;
      each : (rule : ℕ) → rule < length l.design.rules → slice_index_or l.weights.items rule 0 ≡ weight (take l.number l.design.nodes) rule;
    }
