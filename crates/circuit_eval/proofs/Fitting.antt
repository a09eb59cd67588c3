-- The states of a circuit have their widths in each step.
use Rattle.std.proofs.Common.{◌≡◌, ℕ, suc, ◌<◌, List, [], ◌∷◌, zero, get_or, length, map, refl, sym, ap, ap₂, subst, ◌∙◌, arith}
use Rattle.std.specs.List.{All}
use Rattle.kw_bits.specs.BitVector.{BitVector, IsBits}
use Rattle.kw_bits.specs.Laws.{HasWidth}
use Rattle.net_graph.specs.Laws.{Feeds}
use Rattle.net_graph.specs.Nets.{widths_of}
use Rattle.net_graph.specs.Values.{AllRead, no_bits, op_value, Sources, value_at, values_of, widths}
use Rattle.net_graph.proofs.OneByOne.{length-one_by_one}
use Rattle.net_graph.proofs.OperatorWidths.{width-value_at}
use Rattle.net_graph.proofs.Values.{values-widths}
use Rattle.circuit_eval.specs.declared.circuit.StateWire.{StateWire}
use Rattle.circuit_eval.specs.declared.circuit.Wires.{Wires}
use Rattle.circuit_eval.specs.Circuits.{AreBits, input_widths, IsCircuit, state_widths}
use Rattle.circuit_eval.specs.Run.{first_states, next_states, values_in}

all_bits : (b : BitVector) (bs : List BitVector) → IsBits b → All IsBits bs → All IsBits (b ∷ bs)
all_bits b bs own rest zero d h = own
all_bits b bs own rest (suc k) d h = rest k d (omega arith)

-- values that are made of states and have their widths
pub made : (f : StateWire → BitVector) (states : List StateWire) → All (λ wire. HasWidth (f wire) wire.width) states → AreBits (map f states) (state_widths states)
made f [] fit = record { widths = refl; bits = λ k d h. absurd (omega arith) }
made f (wire ∷ wires) fit =
    let own : HasWidth (f wire) wire.width = fit 0 wire (omega arith) in
    let rest = made f wires (λ k d h. fit (suc k) d (omega arith)) in
    record { widths = ap₂ (λ (w : ℕ) (ws : List ℕ). w ∷ ws) own.1 rest.widths; bits = all_bits (f wire) (map f wires) own.0 rest.bits }

pub first_states-AreBits : (c : Wires) → IsCircuit c → AreBits (first_states c.states) (state_widths c.states)
first_states-AreBits c valid =
    made (λ (wire : StateWire). wire.first) c.states (λ k d h. (valid.states k d h).first)

-- what a step reads from outside
pub step_feeds : (c : Wires) (inputs states : List BitVector) → IsCircuit c → AreBits inputs (input_widths c.inputs) → AreBits states (state_widths c.states) → Feeds (record { inputs = inputs; states = states }) c.net
step_feeds c inputs states valid given now = record {
  inputs = given.bits;
  states = now.bits;
  reads = subst (λ (ws : List ℕ). AllRead (widths inputs) ws c.net) (sym now.widths) (subst (λ (ws : List ℕ). AllRead ws (state_widths c.states) c.net) (sym given.widths) valid.reads);
}

next_fits : (c : Wires) (values : List BitVector) (k : ℕ) (d : StateWire) → k < length c.states → IsCircuit c → length values ≡ length c.net → widths values ≡ widths_of c.net → All IsBits values
    → HasWidth (value_at values (get_or c.states k d).next) (get_or c.states k d).width
next_fits c values k d h valid count same bits =
    let wire : StateWire = get_or c.states k d in
    let here = valid.states k d h in
    (bits wire.next no_bits (omega (arith, here.next)), sym (width-value_at values wire.next) ∙ ap (λ (ws : List ℕ). get_or ws wire.next 0) same ∙ here.next_width)

-- the states after a step have their widths
pub next_states-AreBits : (c : Wires) (inputs states : List BitVector) → IsCircuit c → AreBits inputs (input_widths c.inputs) → AreBits states (state_widths c.states) → AreBits (next_states c.states (values_in c inputs states)) (state_widths c.states)
next_states-AreBits c inputs states valid given now =
    let s : Sources = record { inputs = inputs; states = states } in
    let values : List BitVector = values_of s c.net in
    let fit = values-widths s c.net valid.net (step_feeds c inputs states valid given now) in
    let count : length values ≡ length c.net = omega (arith, length-one_by_one (op_value s) [] c.net) in
    made (λ (wire : StateWire). value_at values wire.next) c.states (λ k d h. next_fits c values k d h valid count fit.0 fit.1)
