use Rattle.koika_top.proofs.CircuitTexts.{few-beside}
use Rattle.koika_top.proofs.text_circuit.mixed_of.Goals as goal

pub to_circuit-requires-clause-inputs : goal.to_circuit-requires-clause-inputs
to_circuit-requires-clause-inputs c = (few-beside c.args.text c.in_ok-shown.shown c.requires c.in_ok-shown.ensures.beside).0

pub to_circuit-requires-clause-states : goal.to_circuit-requires-clause-states
to_circuit-requires-clause-states c = (few-beside c.args.text c.in_ok-shown.shown c.requires c.in_ok-shown.ensures.beside).1
