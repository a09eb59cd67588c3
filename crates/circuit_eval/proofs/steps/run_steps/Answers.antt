use Rattle.std.proofs.Common.{◌≡◌, ℕ, ◌+◌, ◌<◌, List, length, sym, subst, ◌∙◌, arith}
use Rattle.std.specs.Prelude.{IfSome, slice_set}
use Rattle.std.proofs.lemmas.List.{length-set}
use Rattle.kw_bits.specs.BitVector.{BitVector}
use Rattle.net_graph.specs.Values.{node_value, values_of}
use Rattle.circuit_eval.specs.Programs.{HasRoom, IsNarrow}
use Rattle.circuit_eval.specs.inner.Programs.{Keeps}
use Rattle.circuit_eval.proofs.Keeping.{keep_word}
use Rattle.circuit_eval.proofs.Programs.{fits}
use Rattle.circuit_eval.proofs.steps.run_steps.Goals.{in-Some, in-None}
use Rattle.circuit_eval.proofs.steps.run_steps.Goals as goal

pub loop-id-preserved : goal.loop-id-preserved
loop-id-preserved c =
    let After : List ℕ → List BitVector → Type 0 = λ words wides. (length words ≡ length c.args.words.now) × (length wides ≡ length c.args.wides.now) × HasRoom c.args.net.now words wides × Keeps c.args.net.now words wides (values_of (record { inputs = c.args.inputs.now; states = c.args.states.now }) c.args.net.now) (c.loop-id.id + 1) in
    let inside : c.loop-id.id < length c.args.net.now = omega (arith, c.loop-id-test.true, c.requires.laid_out.count) in
    let room = c.loop-id.invariant.2 in
    elim c.match-word_of.branch [
      | in-Some w ↦ let made = subst (λ o. IfSome o (λ word. IsNarrow c.args.net.now c.loop-id.id × (word ≡ (node_value (record { inputs = c.args.inputs.now; states = c.args.states.now }) c.args.net.now c.loop-id.id).number))) w.in-Some.is c.word_of.ensures.word in
          let words : List ℕ = slice_set c.loop-id.words c.loop-id.id w.in-Some.word in
          let count : length words ≡ length c.loop-id.words = length-set c.loop-id.words c.loop-id.id w.in-Some.word in
          let wide_room : HasRoom c.args.net.now words c.loop-id.wides = record { each = count ∙ room.each; wide = room.wide } in
          let kept = keep_word c.args.net.now c.loop-id.words c.loop-id.wides (values_of (record { inputs = c.args.inputs.now; states = c.args.states.now }) c.args.net.now) c.loop-id.id c.loop-id.invariant.3 w.in-Some.word (omega (arith, room.each, inside)) (fits (record { inputs = c.args.inputs.now; states = c.args.states.now }) c.args.net.now c.loop-id.id c.requires.laid_out.valid c.requires.feeds inside) made.0 made.1 in
          subst (λ ws. After ws c.match-word_of.wides) (sym w.words-is) (subst (λ vs. After words vs) (sym w.wides-is) (count ∙ c.loop-id.invariant.0, c.loop-id.invariant.1, wide_room, kept))
      | in-None w ↦ let words = w.make_other.new.words in
          let wides = w.make_other.new.wides in
          let count = w.make_other.ensures.words in
          let others = w.make_other.ensures.wides in
          let wide_room : HasRoom c.args.net.now words wides = record { each = count ∙ room.each; wide = λ id h p. omega (arith, others, room.wide id h p) } in
          subst (λ ws. After ws c.match-word_of.wides) (sym w.words-is) (subst (λ vs. After words vs) (sym w.wides-is) (count ∙ c.loop-id.invariant.0, others ∙ c.loop-id.invariant.1, wide_room, w.make_other.ensures.keeps))
    ]
