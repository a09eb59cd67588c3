use Rattle.std.proofs.Common.{◌≡◌, take}
use Rattle.net_graph.specs.Values.{values_of}
use Rattle.net_graph.proofs.evaluation.evaluate.Given as goal

-- the values so far are the net's
abbrev pub invariant-loop-id : goal.invariant-loop-id
invariant-loop-id l =
    take l.id l.values ≡ take l.id (values_of (record { inputs = l.inputs; states = l.states }) l.net)
