use Rattle.std.proofs.Common.{◌≡◌, ◌+◌, length}
use Rattle.aig_blast.specs.Graphs.{IsGraph}
use Rattle.aig_blast.specs.inner.Trims.{ArePlaces}
use Rattle.aig_blast.proofs.trim.copied.Given as goal

abbrev pub invariant-loop-gate : goal.invariant-loop-gate
invariant-loop-gate l = (length l.places.items ≡ 1 + l.graph.sources + l.gate-index) × ArePlaces l.graph l.copy l.places.items × IsGraph l.copy
