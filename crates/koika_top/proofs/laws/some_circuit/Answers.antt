use Rattle.koika_top.proofs.Answered.{some_circuit}
use Rattle.koika_top.proofs.laws.some_circuit.Goals as goal

pub returns : goal.returns
returns c = some_circuit
