use Rattle.std.proofs.Common.{◌≡◌, map, take}
use Rattle.aig_blast.specs.Graphs.{negation}
use Rattle.aig_blast.proofs.parts.invert.Given as goal

abbrev pub invariant-loop-x : goal.invariant-loop-x
invariant-loop-x l = l.made.items ≡ map negation (take l.x-index l.a)
