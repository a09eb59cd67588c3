use Rattle.std.proofs.Common.{◌≡◌, ◌<◌, Bool, List, length, map, false, sym, ap, subst, ◌∙◌, arith}
use Rattle.std.specs.List.{All}
use Rattle.std.proofs.Math.ListN.{length-replicate}
use Rattle.net_graph.specs.declared.node.NetOp.{NetOp}
use Rattle.circuit_eval.specs.declared.circuit.OutputWire.{OutputWire}
use Rattle.circuit_eval.specs.declared.circuit.StateWire.{StateWire}
use Rattle.circuit_eval.specs.declared.circuit.Wires.{Wires}
use Rattle.net_simplify.specs.inner.Passes.{Closes, marked}
use Rattle.net_simplify.proofs.Marking.{ids, nexts, none, serving_all}
use Rattle.net_simplify.proofs.reach.mark_serving.Goals as goal

pub mark_states-requires : goal.mark_states-requires
mark_states-requires c =
    let many : length c.args.serves.now ≡ length c.args.wires.now.net = ap length c.requires.clear ∙ length-replicate (length c.args.wires.now.net) false in
    subst (λ (wires : List StateWire). All (λ (wire : StateWire). wire.next < length c.args.serves.now) wires) (sym c.as_slice.ensures) (λ k d h. omega (arith, (c.requires.circuit.states k d h).next, many))

pub mark_outputs-requires : goal.mark_outputs-requires
mark_outputs-requires c =
    let many : length c.args.serves.now ≡ length c.args.wires.now.net = ap length c.requires.clear ∙ length-replicate (length c.args.wires.now.net) false in
    subst (λ (wires : List OutputWire). All (λ (wire : OutputWire). wire.id < length c.mark_states.new.serves) wires) (sym c.as_slice-2.ensures) (λ k d h. omega (arith, c.requires.circuit.outputs k d h, many, c.mark_states.auto.serves))

pub mark_operands-requires-clause-count : goal.mark_operands-requires-clause-count
mark_operands-requires-clause-count c =
    let many : length c.args.serves.now ≡ length c.args.wires.now.net = ap length c.requires.clear ∙ length-replicate (length c.args.wires.now.net) false in
    omega (arith, ap length c.ops.ensures.ops, many, c.mark_states.auto.serves, c.mark_outputs.auto.serves)

pub returns : goal.returns
returns c =
    let w : Wires = c.args.wires.now in
    let valid = c.requires.circuit in
    let first : c.mark_states.new.serves ≡ marked (nexts w) (none w) =
    c.mark_states.ensures ∙ ap (λ (wires : List StateWire). marked (map (λ (wire : StateWire). wire.next) wires) c.args.serves.now) c.as_slice.ensures ∙ ap (marked (nexts w)) c.requires.clear in
    let second : c.mark_outputs.new.serves ≡ marked (ids w) (marked (nexts w) (none w)) =
    c.mark_outputs.ensures ∙ ap (λ (wires : List OutputWire). marked (map (λ (wire : OutputWire). wire.id) wires) c.mark_states.new.serves) c.as_slice-2.ensures ∙ ap (marked (ids w)) first in
    serving_all w valid c.mark_operands.new.serves (length-replicate (length w.net) false)
    (subst (λ (net : List NetOp). Closes net 0 (marked (ids w) (marked (nexts w) (none w))) c.mark_operands.new.serves) c.ops.ensures.ops (subst (λ (marks : List Bool). Closes c.ops.result.now 0 marks c.mark_operands.new.serves) second c.mark_operands.ensures))
