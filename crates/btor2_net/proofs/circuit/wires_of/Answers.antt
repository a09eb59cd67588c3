use Rattle.std.proofs.Common.{◌≡◌, ◌<◌, List, length, map, ap, ap₂, sym, subst, ◌∙◌}
use Rattle.kw_bits.specs.BitVector.{BitVector}
use Rattle.net_graph.specs.Laws.{Feeds}
use Rattle.net_graph.specs.Values.{values_of}
use Rattle.circuit_eval.specs.declared.circuit.InputWire.{InputWire}
use Rattle.circuit_eval.specs.declared.circuit.OutputWire.{OutputWire}
use Rattle.circuit_eval.specs.declared.circuit.StateWire.{StateWire}
use Rattle.circuit_eval.specs.declared.circuit.Wires.{Wires}
use Rattle.btor2_model.specs.Rules.{is_input, is_state}
use Rattle.btor2_model.specs.Run.{lines_by_rule}
use Rattle.btor2_model.specs.Table.{value_in}
use Rattle.btor2_net.specs.inner.Wires.{AreWiresOf, node_of, state_wire, zero_of}
use Rattle.btor2_net.proofs.Made.{are-wires, feeds-zeros, firsts-stand, inputs-stand, states-stand}
use Rattle.btor2_net.proofs.circuit.wires_of.Goals as goal

pub zeros-requires : goal.zeros-requires
zeros-requires c = inputs-stand c.args.lines.now c.requires.accepted c.in_ok-nodes.nodes c.in_ok-nodes.ensures

pub zeros-requires-2 : goal.zeros-requires-2
zeros-requires-2 c = states-stand c.args.lines.now c.requires.accepted c.in_ok-nodes.nodes c.in_ok-nodes.ensures

pub constants-requires : goal.constants-requires
constants-requires c =
    let n = c.in_ok-nodes.nodes in
    let feeds = feeds-zeros c.args.lines.now c.requires.accepted n c.in_ok-nodes.ensures in
    let inputs : c.deref.result.now ≡ map (zero_of n) (lines_by_rule is_input c.args.lines.now) = c.deref.ensures.value ∙ c.in_ok-input_zeros.ensures in
    let states : c.deref-2.result.now ≡ map (zero_of n) (lines_by_rule is_state c.args.lines.now) = c.deref-2.ensures.value ∙ c.in_ok-state_zeros.ensures in
    subst (λ (vs : List BitVector). Feeds (record { inputs = vs; states = c.deref-2.result.now }) n.net) (sym inputs)
    (subst (λ (vs : List BitVector). Feeds (record { inputs = map (zero_of n) (lines_by_rule is_input c.args.lines.now); states = vs }) n.net) (sym states) feeds)

pub states-requires-clause-stand : goal.states-requires-clause-stand
states-requires-clause-stand c = states-stand c.args.lines.now c.requires.accepted c.in_ok-nodes.nodes c.in_ok-nodes.ensures

pub states-requires-clause-first : goal.states-requires-clause-first
states-requires-clause-first c = λ state id is.
    let n = c.in_ok-nodes.nodes in
    let inputs : c.deref.result.now ≡ map (zero_of n) (lines_by_rule is_input c.args.lines.now) = c.deref.ensures.value ∙ c.in_ok-input_zeros.ensures in
    let states : c.deref-2.result.now ≡ map (zero_of n) (lines_by_rule is_state c.args.lines.now) = c.deref-2.ensures.value ∙ c.in_ok-state_zeros.ensures in
    let constants = c.deref-3.ensures.value ∙ c.in_ok-constants.ensures ∙ ap₂ (λ (a b : List BitVector). values_of (record { inputs = a; states = b }) n.net) inputs states in
    subst (λ (vs : List BitVector). node_of n id < length vs) (sym constants)
    (firsts-stand c.args.lines.now c.requires.accepted n c.in_ok-nodes.ensures (value_in c.in_ok-inits.inits) (value_in c.in_ok-nexts.nexts) c.in_ok-inits.ensures c.in_ok-nexts.ensures state id is)

pub inputs-requires : goal.inputs-requires
inputs-requires c = inputs-stand c.args.lines.now c.requires.accepted c.in_ok-nodes.nodes c.in_ok-nodes.ensures

pub returns : goal.returns
returns c =
    let n = c.in_ok-nodes.nodes in
    let lines = c.args.lines.now in
    let inits = value_in c.in_ok-inits.inits in
    let nexts = value_in c.in_ok-nexts.nexts in
    let inputs : c.deref.result.now ≡ map (zero_of n) (lines_by_rule is_input lines) = c.deref.ensures.value ∙ c.in_ok-input_zeros.ensures in
    let states : c.deref-2.result.now ≡ map (zero_of n) (lines_by_rule is_state lines) = c.deref-2.ensures.value ∙ c.in_ok-state_zeros.ensures in
    let constants = c.deref-3.ensures.value ∙ c.in_ok-constants.ensures ∙ ap₂ (λ (a b : List BitVector). values_of (record { inputs = a; states = b }) n.net) inputs states in
    let made = are-wires lines c.requires.accepted n c.in_ok-nodes.ensures inits nexts c.in_ok-inits.ensures c.in_ok-nexts.ensures in
    let state_wires = c.in_ok-states.ensures ∙ ap (λ (vs : List BitVector). map (state_wire n vs inits nexts) (lines_by_rule is_state lines)) constants in
    subst (AreWiresOf lines)
    (sym (ap (λ (ss : List StateWire). let w : Wires = record { net = n.net; states = ss; inputs = c.in_ok-inputs.inputs; outputs = c.in_ok-outputs.outputs } in w) state_wires
    ∙ ap₂ (λ (is : List InputWire) (os : List OutputWire). let w : Wires = record { net = n.net; states = map (state_wire n (values_of (record { inputs = map (zero_of n) (lines_by_rule is_input lines); states = map (zero_of n) (lines_by_rule is_state lines) }) n.net) inits nexts) (lines_by_rule is_state lines); inputs = is; outputs = os } in w)
    c.in_ok-inputs.ensures c.in_ok-outputs.ensures))
    made
