use Rattle.std.proofs.Common.{◌≡◌, length, take}
use Rattle.aig_blast.specs.AigRun.{next_words}
use Rattle.aig_blast.specs.inner.AigSims.{variable_values}
use Rattle.aig_blast.proofs.sim.take_next.Given as goal

-- the words so far have their next values
abbrev pub invariant-loop-state : goal.invariant-loop-state
invariant-loop-state l = record {
  count : length l.states ≡ length l.latches;
  so_far : take l.state l.states ≡ next_words (take l.state l.latches) (variable_values l.values);
}
