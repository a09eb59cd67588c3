use Rattle.std.proofs.Common.{◌≡◌, ◌<◌, List, [], ◌∷◌, ◌++◌, get_or, length, sym, ap₂, ◌∙◌, arith}
use Rattle.std.specs.Prelude.{slice_set}
use Rattle.std.proofs.lemmas.List.{get_or-map, get_or-set_same, length-map, length-set, take_more, take-set-le}
use Rattle.kw_bits.specs.BitVector.{BitVector}
use Rattle.net_graph.specs.Values.{value_at}
use Rattle.circuit_eval.specs.Run.{next_states}
use Rattle.circuit_eval.specs.declared.circuit.StateWire.{StateWire}
use Rattle.circuit_eval.proofs.state_words.take_wides.Goals as goal

pub loop-state-preserved : goal.loop-state-preserved
loop-state-preserved c =
    let k = c.loop-state.state in
    let states = c.loop-state.states in
    let wires = c.args.wires.now in
    let wire : StateWire = c.index-wires-state.result in
    let value : BitVector = c.node.result in
    let within : k < length states = omega (arith, c.loop-state-test.true, c.loop-state.invariant.count) in
    let inside : k < length wires = omega (arith, within, c.loop-state.invariant.count, c.requires.states) in
    let long : length (slice_set states k value) ≡ length states = length-set states k value in
    record {
      count = long ∙ c.loop-state.invariant.count;
      so_far = λ values keeps.
          let next : List BitVector = next_states wires values in
          let own : value ≡ get_or next k value = c.node.ensures values (keeps (get_or wires k wire).next (c.requires.stand k wire inside))
          ∙ sym (get_or-map (λ (w : StateWire). value_at values w.next) wires k wire value inside) in
          take_more (slice_set states k value) k value (omega (arith, within, long))
          ∙ ap₂ (λ (vs : List BitVector) (v : BitVector). vs ++ v ∷ []) (take-set-le k states k value (omega arith) ∙ c.loop-state.invariant.so_far values keeps)
          (get_or-set_same states k value value within ∙ own)
          ∙ sym (take_more next k value (omega (arith, inside, length-map wires (λ (w : StateWire). value_at values w.next))));
    }
