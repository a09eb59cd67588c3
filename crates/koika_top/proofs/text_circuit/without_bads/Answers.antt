use Rattle.btor2_model.specs.Rules.{is_input, is_state}
use Rattle.koika_top.proofs.BesideRuns.{bare-is}
use Rattle.koika_top.proofs.text_circuit.without_bads.Goals as goal

pub to_circuit-requires-clause-inputs : goal.to_circuit-requires-clause-inputs
to_circuit-requires-clause-inputs c = c.requires.few is_input

pub to_circuit-requires-clause-states : goal.to_circuit-requires-clause-states
to_circuit-requires-clause-states c = c.requires.few is_state

pub returns : goal.returns
returns c = bare-is c.args.text.now c.requires.none c.in_ok-circuit.circuit c.in_ok-shape.shape c.new.result c.in_ok-circuit.ensures.lines c.in_ok-circuit.ensures.run c.in_ok-shape.ensures c.new.ensures
