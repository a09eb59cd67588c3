-- What private functions alone cite of this crate's `Designs`.
use Rattle.typed_core.specs.declared.design.Parts.{Parts}
use Rattle.circuit_eval.specs.Circuits as circuit
use Rattle.circuit_eval.specs.declared.circuit.Wires.{Wires}
use Rattle.net_sched.specs.Designs.{HasParts, RunsAs}

-- the wires make a circuit, which is the design's
pub record AreWiresOf (d : Parts) (c : Wires) : Type 0 where
  pub circuit : circuit.IsCircuit c
  pub parts : HasParts d c
  pub run : RunsAs d c
