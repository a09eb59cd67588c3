use Rattle.std.proofs.Common.{◌≡◌, List, ap, ap₂, ◌∙◌}
use Rattle.circuit_eval.specs.declared.circuit.InputWire.{InputWire}
use Rattle.circuit_eval.specs.declared.circuit.OutputWire.{OutputWire}
use Rattle.circuit_eval.specs.declared.circuit.StateWire.{StateWire}
use Rattle.circuit_eval.specs.declared.circuit.Wires.{Wires}
use Rattle.verilog_text.specs.Names.{is_taken, marked}
use Rattle.verilog_text.specs.Translations.{names_of}
use Rattle.verilog_text.specs.inner.Making.{has_name}
use Rattle.verilog_text.proofs.NamedModules.{has_name-taken}
use Rattle.verilog_text.proofs.names.own_name.Goals as goal

pub returns : goal.returns
returns c =
    let inside = c.circuit.inside in
    let name = c.args.name.now in
    let w : Wires =
    record { net = inside.net; states = inside.states; inputs = inside.inputs; outputs = inside.outputs } in
    let given : has_name c.as_slice-inputs.result.now c.as_slice-outputs.result.now c.as_slice-states.result.now name ≡
    has_name w.inputs w.outputs w.states name =
    ap₂ (λ (is : List InputWire) (os : List OutputWire). has_name is os c.as_slice-states.result.now name)
    c.as_slice-inputs.ensures c.as_slice-outputs.ensures
    ∙ ap (λ (ss : List StateWire). has_name w.inputs w.outputs ss name) c.as_slice-states.ensures in
    c.in_ok-text.ensures
    ∙ ap (λ b. marked b name) (c.has_name-is_taken.ensures ∙ given ∙ has_name-taken w name
    ∙ ap (λ (v : Wires). is_taken (names_of v) name) c.circuit.view_is)
