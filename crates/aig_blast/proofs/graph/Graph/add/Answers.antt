use Rattle.std.proofs.Common.{◌<◌, ◌^◌, arith}
use Rattle.aig_blast.specs.Graphs.{Gates, IsGraph, Keeps, Stands, variables}
use Rattle.aig_blast.proofs.Sharing.{IsGraph-insert, Makes-insert}
use Rattle.aig_blast.proofs.graph.Graph.add.Goals as goal
use Rattle.aig_blast.proofs.graph.Graph.add.Goals.{In_ok-id}

old : In_ok-id → Gates
old c = record { sources = c.self.inside.sources; gates = c.self.inside.gates.keys }

new : In_ok-id → Gates
new c = record { sources = c.self.inside.sources; gates = c.insert_full.new.self.keys }

stands : (c : In_ok-id) → Stands (variables (old c)) c.args.gate
unfolding old
stands c = rw (← c.self.view_is) at c.requires

grown : (c : In_ok-id) → IsGraph (new c) × Keeps (old c) (new c)
unfolding old new
grown c =
    let room : variables (old c) < 2 ^ 60 = omega arith in
    IsGraph-insert (old c) c.insert_full.new.self.keys c.args.gate c.self.invariant room (stands c) c.in_ok-id.ensures.keys c.in_ok-id.ensures.unique

pub invariant_of-self-2 : goal.invariant_of-self-2
unfolding new
invariant_of-self-2 c = (grown c).0

pub returns : goal.returns
unfolding old new
returns c = rw (← c.self.view_is) (Makes-insert (old c) (new c) c.args.gate c.in_ok-id.id (grown c).0 (grown c).1 (stands c) c.in_ok-id.ensures.stored)
