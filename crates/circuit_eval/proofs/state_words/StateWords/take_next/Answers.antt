-- The states after a step, as they are kept.
use Rattle.std.proofs.Common.{◌≡◌, ℕ, List, length, sym, ap, ◌∙◌, arith}
use Rattle.std.specs.Vec.{with_items}
use Rattle.std.proofs.lemmas.List.{length-map, length-take-le, with_items_is}
use Rattle.kw_bits.specs.BitVector.{BitVector}
use Rattle.net_graph.specs.Values.{value_at}
use Rattle.circuit_eval.specs.Circuits.{state_widths}
use Rattle.circuit_eval.specs.inner.Programs.{Keeps}
use Rattle.circuit_eval.specs.Programs.{AreKept, kept_from, word_at}
use Rattle.circuit_eval.specs.Run.{next_states}
use Rattle.circuit_eval.specs.declared.circuit.StateWire.{StateWire}
use Rattle.circuit_eval.proofs.Kept.{fit_now, next_state_words}
use Rattle.circuit_eval.proofs.state_words.StateWords.take_next.Goals.{After-take_wides}
use Rattle.circuit_eval.proofs.state_words.StateWords.take_next.Goals as goal

widths_are : (c : After-take_wides) → c.self.inside.widths.items ≡ state_widths c.args.wires.now
widths_are c =
    sym (fit_now c.self.inside.widths.items c.self.inside.words.items c.self.inside.wides.items c.args.self.now c.self.view_is c.self.invariant).widths ∙ c.requires.states

count : (c : After-take_wides) → length c.self.inside.widths.items ≡ length c.args.wires.now
count c = ap length (widths_are c) ∙ length-map c.args.wires.now (λ (wire : StateWire). wire.width)

pub take_wides-requires-clause-states : goal.take_wides-requires-clause-states
take_wides-requires-clause-states c =
    let widths = sym (fit_now c.self.inside.widths.items c.self.inside.words.items c.self.inside.wides.items c.args.self.now c.self.view_is c.self.invariant).widths ∙ c.requires.states in
    omega (arith, c.deref_mut-2.ensures.len, c.self.inside.wides.ok.0, c.self.invariant.few, ap length widths, length-map c.args.wires.now (λ (wire : StateWire). wire.width))

after : (c : After-take_wides) (values : List BitVector) → Keeps c.args.net.now c.args.words.now c.args.wides.now values (length c.args.net.now)
    → AreKept c.self.inside.widths.items (with_items c.self.inside.words c.take_words.new.states).items (with_items c.self.inside.wides c.take_wides.new.states).items
    × (kept_from c.self.inside.widths.items (with_items c.self.inside.words c.take_words.new.states).items (with_items c.self.inside.wides c.take_wides.new.states).items 0
    ≡ next_states c.args.wires.now values)
after c values keeps =
    let next : List BitVector = next_states c.args.wires.now values in
    let n : ℕ = length c.deref_mut-2.result.now in
    let room : n ≡ length c.self.inside.wides.items = omega (arith, c.deref_mut-2.ensures.len, c.self.inside.wides.ok.0) in
    let next_count : length next ≡ length c.args.wires.now = length-map c.args.wires.now (λ (wire : StateWire). value_at values wire.next) in
    let word_count : length c.take_words.new.states ≡ length c.args.wires.now = ap length c.take_words.ensures
    ∙ length-map c.args.wires.now (λ (wire : StateWire). word_at c.args.words.now wire.next) in
    let wide_count : length c.take_wides.new.states ≡ n = ap length (c.take_wides.ensures values keeps) ∙ length-take-le n next (omega (arith, room, next_count, c.self.invariant.few, count c)) in
    next_state_words c.args.net.now c.args.words.now c.args.wides.now values keeps c.args.wires.now c.requires.wires c.self.inside.widths.items
    (with_items c.self.inside.words c.take_words.new.states).items (with_items c.self.inside.wides c.take_wides.new.states).items n (widths_are c)
    (with_items_is c.self.inside.words c.take_words.new.states (omega (arith, word_count, count c, c.self.invariant.each, c.self.inside.words.ok.0)) ∙ c.take_words.ensures)
    (with_items_is c.self.inside.wides c.take_wides.new.states (omega (arith, wide_count, room, c.self.inside.wides.ok.0)) ∙ c.take_wides.ensures values keeps)
    (omega (arith, room, c.self.invariant.few)) (λ k h w. omega (arith, room, c.self.invariant.wide k h w))

pub invariant_of-self : goal.invariant_of-self
invariant_of-self c = (after ((goal.at.invariant_of-self c).After-take_wides) c.requires.kept.0 c.requires.kept.1).0

pub returns : goal.returns
returns c = λ values keeps. (after ((goal.at.returns c).After-take_wides) values keeps).1
