use Rattle.std.proofs.Common.{◌≡◌, List, ap, ap₂, subst, ◌∙◌}
use Rattle.circuit_eval.specs.Circuits.{IsCircuit}
use Rattle.circuit_eval.specs.declared.circuit.InputWire.{InputWire}
use Rattle.circuit_eval.specs.declared.circuit.OutputWire.{OutputWire}
use Rattle.circuit_eval.specs.declared.circuit.StateWire.{StateWire}
use Rattle.circuit_eval.specs.declared.circuit.Wires.{Wires}
use Rattle.btor2_net.proofs.LaidOut.{are-laid-out}
use Rattle.btor2_net.proofs.TidyWritten.{are-tidy}
use Rattle.btor2_net.proofs.Written.{are-written}
use Rattle.btor2_net.proofs.lines.to_lines.Goals as goal

pub returns : goal.returns
returns c =
    let inside = c.circuit.inside in
    let given : Wires = record { net = inside.net; states = c.as_slice-states.result.now; inputs = c.as_slice-inputs.result.now; outputs = c.as_slice-outputs.result.now } in
    let same : given ≡ c.args.circuit.now =
    ap (λ (states : List StateWire). let w : Wires = record { net = inside.net; states = states; inputs = c.as_slice-inputs.result.now; outputs = c.as_slice-outputs.result.now } in w) c.as_slice-states.ensures
    ∙ ap₂ (λ (inputs : List InputWire) (outputs : List OutputWire). let w : Wires = record { net = inside.net; states = inside.states; inputs = inputs; outputs = outputs } in w) c.as_slice-inputs.ensures c.as_slice-outputs.ensures
    ∙ c.circuit.view_is in
    let circuit : IsCircuit c.args.circuit.now = subst IsCircuit c.circuit.view_is c.circuit.invariant in
    let all = are-written c.wires_lines.result given c.args.circuit.now same circuit c.requires.names c.wires_lines.ensures.lines c.wires_lines.ensures.few in
    record { lines = all.lines; accepted = all.accepted; names = all.names; run = all.run; outputs = all.outputs; ids = all.ids; layout = are-laid-out c.wires_lines.result c.args.circuit.now circuit c.requires.names all.lines; tidy = are-tidy c.wires_lines.result c.args.circuit.now circuit c.requires.names all.lines }
