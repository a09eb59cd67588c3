use Rattle.std.proofs.Common.{◌≡◌, ◌<◌, ℕ, List, length, sym, subst, All}
use Rattle.std.proofs.lemmas.List.{take_all}
use Rattle.std.proofs.lemmas.List.Elements.{All-more}
use Rattle.circuit_eval.specs.declared.circuit.StateWire.{StateWire}
use Rattle.aig_blast.specs.inner.Nodes.{word_at}
use Rattle.aig_blast.specs.inner.Trims.{IsPlaced}
use Rattle.aig_blast.proofs.NodeWords.{word-item}
use Rattle.aig_blast.proofs.circuit.are_nexts_placed.Goals as goal

pub loop-wire-preserved : goal.loop-wire-preserved
loop-wire-preserved c =
    let wires : List StateWire = c.args.wires.now in
    let words : List (List ℕ) = c.args.words.now in
    let wire : StateWire = c.wire-item.result in
    let P = λ (wire : StateWire). All (IsPlaced c.args.places.now) (word_at words wire.next) in
    let within : wire.next < length words = subst (λ (wire : StateWire). wire.next < length words) (sym c.wire-item.is) (c.requires c.loop-wire.wire-index wire c.loop-wire-test.true) in
    let is : c.as_slice.result.now ≡ word_at words wire.next = word-item words wire.next c.as_slice.result.now c.index-words-wire.result within c.as_slice.ensures c.index-words-wire.is in
    All-more P wires c.loop-wire.wire-index wire c.loop-wire-test.true c.loop-wire.invariant
    (subst P c.wire-item.is (subst (All (IsPlaced c.args.places.now)) is (c.is_word_placed.ensures c.if-not-is_word_placed.false)))

pub returns : goal.returns
returns c is =
    subst (All (λ (wire : StateWire). All (IsPlaced c.args.places.now) (word_at c.args.words.now wire.next))) (take_all c.loop-wire.wire-index c.args.wires.now c.loop-wire-test.false) c.loop-wire.invariant
