use Rattle.btor2_net.proofs.circuit.to_circuit.Goals as goal

pub unwrap-requires : goal.unwrap-requires
unwrap-requires c = c.new.ensures.some.1 c.in_ok-wires.ensures.circuit
