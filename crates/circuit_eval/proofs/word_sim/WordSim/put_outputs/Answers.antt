use Rattle.std.proofs.Common.{List, length, ap, ◌∙◌}
use Rattle.kw_bits.specs.BitVector.{BitVector}
use Rattle.net_graph.specs.Nets.{widths_of}
use Rattle.circuit_eval.specs.inner.Programs.{Keeps}
use Rattle.circuit_eval.specs.Programs.{kept_from}
use Rattle.circuit_eval.specs.Run.{outputs_in}
use Rattle.circuit_eval.specs.Simulations.{Simulation}
use Rattle.circuit_eval.specs.declared.circuit.Wires.{Wires}
use Rattle.circuit_eval.proofs.Kept.{keeps_read, nodes_kept}
use Rattle.circuit_eval.proofs.word_sim.WordSim.put_outputs.Goals as goal

pub take_outputs-requires-clause-kept : goal.take_outputs-requires-clause-kept
take_outputs-requires-clause-kept c =
    let kept : List BitVector = kept_from (widths_of c.self.inside.circuit.now.net) c.self.inside.words.items c.self.inside.wides.items 0 in (
      kept,
      keeps_read c.self.inside.circuit.now.net c.circuit.inside.net c.self.inside.words.items c.deref.result.now c.self.inside.wides.items c.deref-2.result.now kept
          (ap (λ (w : Wires). w.net) c.circuit.view_is) c.deref.ensures.value c.deref-2.ensures.value
          (nodes_kept c.self.inside.circuit.now.net c.self.inside.words.items c.self.inside.wides.items c.self.invariant.3),
    )

pub returns : goal.returns
returns c =
    let kept : List BitVector = kept_from (widths_of c.self.inside.circuit.now.net) c.self.inside.words.items c.self.inside.wides.items 0 in
    let keeps : Keeps c.circuit.inside.net c.deref.result.now c.deref-2.result.now kept (length c.circuit.inside.net) =
    keeps_read c.self.inside.circuit.now.net c.circuit.inside.net c.self.inside.words.items c.deref.result.now c.self.inside.wides.items c.deref-2.result.now kept
    (ap (λ (w : Wires). w.net) c.circuit.view_is) c.deref.ensures.value c.deref-2.ensures.value
    (nodes_kept c.self.inside.circuit.now.net c.self.inside.words.items c.self.inside.wides.items c.self.invariant.3) in
    c.take_outputs.ensures kept keeps ∙ ap (λ wires. outputs_in wires kept) (c.as_slice.ensures ∙ ap (λ (w : Wires). w.outputs) c.circuit.view_is) ∙ ap (λ (s : Simulation). s.outputs) c.self.view_is
