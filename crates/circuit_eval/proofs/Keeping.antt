-- What is kept of the nodes of a net grows by one node after another.
use Rattle.std.proofs.Common.{◌≡◌, ◌≢◌, ⊎_elim, ℕ, ◌+◌, ◌<◌, List, length, refl, sym, subst, ◌∙◌, arith}
use Rattle.std.specs.Prelude.{slice_set}
use Rattle.std.proofs.Math.Nat.{eq-or-lt_of_le}
use Rattle.std.proofs.lemmas.List.{get_or-set_other, get_or-set_same}
use Rattle.kw_bits.specs.BitVector.{BitVector}
use Rattle.kw_bits.specs.Laws.{HasWidth}
use Rattle.net_graph.specs.Values.{no_bits, value_at}
use Rattle.net_graph.specs.declared.node.NetOp.{NetOp}
use Rattle.circuit_eval.specs.Programs.{IsNarrow, node_width, word_at}
use Rattle.circuit_eval.specs.inner.Programs.{Keeps, KeepsAt}

module _ (net : List NetOp) (words : List ℕ) (wides values : List BitVector) (id : ℕ) (before : Keeps net words wides values id) where
  -- one node more, where nothing of the nodes before it changes
  one_more : (more : List ℕ) (others : List BitVector) → ((k : ℕ) → k ≢ id → word_at more k ≡ word_at words k) → ((k : ℕ) → k ≢ id → value_at others k ≡ value_at wides k)
      → KeepsAt net more others values id → Keeps net more others values (id + 1)
  one_more more others same_word same_wide own k h =
      ⊎_elim (λ (e : k ≡ id). subst (KeepsAt net more others values) (sym e) own)
      (λ (l : k < id). let was = before k l in
      let other : k ≢ id = λ (e : k ≡ id). omega (arith, e, l) in
      record { fits = was.fits; narrow = λ n. same_word k other ∙ was.narrow n; wide = λ w. same_wide k other ∙ was.wide w })
      (eq-or-lt_of_le (omega (arith, h)))

  -- the word of a node of up to 64 bits
  pub keep_word : (word : ℕ) → id < length words → HasWidth (value_at values id) (node_width net id) → IsNarrow net id → word ≡ (value_at values id).number → Keeps net (slice_set words id word) wides values (id + 1)
  keep_word word within fits narrow same =
      one_more (slice_set words id word) wides (λ k other. get_or-set_other words id k word 0 other) (λ k other. refl)
      (record { fits = fits; narrow = λ n. get_or-set_same words id word 0 within ∙ same; wide = λ w. absurd (omega (arith, w, narrow)) })

  -- the value of a wider one
  pub keep_wide : (value : BitVector) → id < length wides → HasWidth (value_at values id) (node_width net id) → 64 < node_width net id → value ≡ value_at values id → Keeps net words (slice_set wides id value) values (id + 1)
  keep_wide value within fits wide same =
      one_more words (slice_set wides id value) (λ k other. refl) (λ k other. get_or-set_other wides id k value no_bits other)
      (record { fits = fits; narrow = λ n. absurd (omega (arith, n, wide)); wide = λ w. get_or-set_same wides id value no_bits within ∙ same })
