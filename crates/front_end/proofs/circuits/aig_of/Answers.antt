use Rattle.front_end.proofs.Blasted.{has-symbols, is-aig}
use Rattle.front_end.proofs.circuits.aig_of.Goals as goal

pub blast-requires : goal.blast-requires
blast-requires c = record { names = has-symbols c.args.lowered.now.checked c.in_ok-circuit.circuit c.args.lowered.now.names c.in_ok-circuit.ensures.wired }

pub returns : goal.returns
returns c =
    let circuit = c.in_ok-circuit in
    let aig = c.in_ok-aig in
    is-aig c.args.lowered.now.checked circuit.circuit aig.aig circuit.ensures.wired aig.ensures.wires aig.ensures.run
