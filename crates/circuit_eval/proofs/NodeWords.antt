-- The words of nodes by their steps.
use Rattle.std.proofs.Common.{◌≡◌, ℕ, ◌+◌, ◌-◌, ◌<◌, ◌≤◌, List, length, refl, sym, ap, subst, ◌∙◌, arith}
use Rattle.std.specs.Prelude.{Bool, true, false, if◌then◌else◌, slice_get, Some, nat_eq}
use Rattle.std.proofs.lemmas.List.{length-map}
use Rattle.std.proofs.lemmas.Option.{get_or_from_slice_get, slice_get_within}
use Rattle.kw_bits.specs.BitVector.{BitVector, IsBits}
use Rattle.kw_bits.specs.Laws.{HasWidth}
use Rattle.kw_bits.specs.Operators as op
use Rattle.kw_bits.proofs.OperatorLaws.{not-HasWidth}
use Rattle.net_graph.specs.Laws.{Feeds}
use Rattle.net_graph.specs.Nets.{IsNet}
use Rattle.net_graph.specs.Operators.{TakesTwo, ite_value, one_value, two_value, uext_value}
use Rattle.net_graph.specs.Values.{node_value, op_value, Reads, Sources, value_at, values_of, widths}
use Rattle.net_graph.specs.declared.node.NetOne.TheVariants.{Not}
use Rattle.net_graph.specs.declared.node.NetTwo.{NetTwo}
use Rattle.net_graph.specs.declared.node.NetTwo.TheVariants.{Concat}
use Rattle.net_graph.specs.declared.node.NetOp.{NetOp}
use Rattle.net_graph.specs.declared.node.NetOp.TheVariants.{Const, Input, State, One, Two, Slice, Uext, Ite}
use Rattle.net_graph.proofs.OperatorWidths.{width-value_at}
use Rattle.circuit_eval.specs.Programs.{Has, HasNarrow, IsNarrow, node_width, word_at}
use Rattle.circuit_eval.specs.inner.Programs.{Keeps}
use Rattle.circuit_eval.specs.Words.{IsMask}
use Rattle.circuit_eval.specs.inner.Words.{ChosenWord, JoinedWord, MaskedWord, OneWord, SlicedWord, TwoWord}
use Rattle.circuit_eval.proofs.Programs.{by_operator, fits, IsOperand, of_ite, of_one, of_slice, of_two, of_uext}

-- the word of a node of up to 64 bits
abbrev pub IsWordOf : Sources → List NetOp → ℕ → ℕ → Type 0
IsWordOf s net id word = IsNarrow net id × (word ≡ (node_value s net id).number)

either_width : (b : Bool) (u v : BitVector) → u.width ≡ v.width → (if b then u else v).width ≡ u.width
either_width true u v e = refl
either_width false u v e = sym e

-- a choice is as wide as what is chosen from
ite_width : (condition u v : BitVector) → u.width ≡ v.width → (ite_value condition u v).width ≡ u.width
unfolding ite_value
ite_width condition u v e = either_width (nat_eq condition.number 1) u v e

module _ (s : Sources) (net : List NetOp) (words : List ℕ) (wides : List BitVector) (id : ℕ) (valid : IsNet net) (feeds : Feeds s net) (keeps : Keeps net words wides (values_of s net) id) where
  -- an operand of up to 64 bits: its value, its width and its word
  record IsKept (a : ℕ) : Type 0 where
    pub bits : IsBits (node_value s net a)
    pub width : (node_value s net a).width ≡ node_width net a
    pub word : (node_value s net a).number ≡ word_at words a

  kept : (a : ℕ) → IsOperand net id a → IsNarrow net a → IsKept a
  kept a at narrow =
      let own : HasWidth (node_value s net a) (node_width net a) = fits s net a valid feeds at.within in
      record { bits = own.0; width = own.1; word = sym ((keeps a at.before).narrow narrow) }

  -- a node has the width of its value, and its value is its operator's
  settled : (op : NetOp) (value : BitVector) (word : ℕ) → Has net id op → op_value s (values_of s net) op ≡ value → value.width ≤ 64 → word ≡ value.number → IsWordOf s net id word
  settled op value word has is narrow same =
      let value_is : node_value s net id ≡ value = by_operator s net id op valid has ∙ is in
      let own : HasWidth (node_value s net id) (node_width net id) = fits s net id valid feeds (slice_get_within net id op has) in
      (omega (arith, own.1, ap (λ (v : BitVector). v.width) value_is, narrow), same ∙ sym (ap (λ (v : BitVector). v.number) value_is))

  pub constant : (value : BitVector) (word : ℕ) → Has net id (Const value) → value.width ≤ 64 → value.number ≡ word → IsWordOf s net id word
  constant value word has narrow same = settled (Const value) value word has refl narrow (sym same)

  reads : (op : NetOp) → Has net id op → Reads (widths s.inputs) (widths s.states) op
  reads op has = subst (λ (o : NetOp). Reads (widths s.inputs) (widths s.states) o) (get_or_from_slice_get net id op op has) (feeds.reads id op (slice_get_within net id op has))

  -- what is read from outside is there, at its width
  there : (values : List BitVector) (number width : ℕ) → slice_get (widths values) number ≡ Some width → (number < length values) × ((value_at values number).width ≡ width)
  there values number width at =
      (omega (arith, slice_get_within (widths values) number width at, length-map values (λ (value : BitVector). value.width)), sym (width-value_at values number) ∙ get_or_from_slice_get (widths values) number width 0 at)

  pub input_there : (number width : ℕ) → Has net id (Input number width) → (number < length s.inputs) × ((value_at s.inputs number).width ≡ width)
  input_there number width has = there s.inputs number width (reads (Input number width) has)

  pub state_there : (number width : ℕ) → Has net id (State number width) → (number < length s.states) × ((value_at s.states number).width ≡ width)
  state_there number width has = there s.states number width (reads (State number width) has)

  pub of_input : (number width word : ℕ) → Has net id (Input number width) → width ≤ 64 → word ≡ (value_at s.inputs number).number → IsWordOf s net id word
  of_input number width word has narrow same =
      let at = input_there number width has in
      settled (Input number width) (value_at s.inputs number) word has refl (omega (arith, at.1, narrow)) same

  pub of_state : (number width word : ℕ) → Has net id (State number width) → width ≤ 64 → word ≡ (value_at s.states number).number → IsWordOf s net id word
  of_state number width word has narrow same =
      let at = state_there number width has in
      settled (State number width) (value_at s.states number) word has refl (omega (arith, at.1, narrow)) same

  pub copied : (a added word : ℕ) → Has net id (Uext a added) → node_width net a + added ≤ 64 → word ≡ word_at words a → IsWordOf s net id word
  unfolding uext_value op.zext
  copied a added word has narrow same =
      let at = of_uext net id a added valid has in
      let x = kept a at.0 (omega (arith, narrow)) in
      settled (Uext a added) (uext_value (node_value s net a) added) word has refl (omega (arith, x.width, narrow)) (same ∙ sym x.word)

  pub inverted : (a mask p word : ℕ) → Has net id (One Not a) → IsNarrow net a → IsMask mask (node_width net a) → p ≡ word_at words a → OneWord op.not p mask word → IsWordOf s net id word
  unfolding one_value
  inverted a mask p word has narrow ones at run =
      let x = kept a (of_one net id a Not valid has) narrow in
      let v : BitVector = node_value s net a in
      settled (One Not a) (op.not v) word has refl (omega (arith, (not-HasWidth v x.bits).1, x.width, narrow)) (run v x.bits (omega (arith, x.width, narrow)) (x.word ∙ sym at) (subst (IsMask mask) (sym x.width) ones))

  -- an operator on two nodes of one width, which is f
  module _ (operator : NetTwo) (f : BitVector → BitVector → BitVector) (size : ℕ → ℕ) (equal : (w v : ℕ) → TakesTwo operator w v → w ≡ v) (is : (x y : BitVector) → two_value operator x y ≡ f x y)
      (sized : (x y : BitVector) → IsBits x → IsBits y → x.width ≡ y.width → HasWidth (f x y) (size x.width)) (small : (w : ℕ) → w ≤ 64 → size w ≤ 64) where
    pub twice : (a b p q word : ℕ) → HasNarrow net id operator a b → p ≡ word_at words a → q ≡ word_at words b
        → ((x y : BitVector) → IsBits x → IsBits y → x.width ≡ y.width → x.width ≡ node_width net a → x.number ≡ p → y.number ≡ q → word ≡ (f x y).number) → IsWordOf s net id word
    twice a b p q word has at_a at_b run =
        let both = of_two net id a b operator valid has.0 in
        let same : node_width net a ≡ node_width net b = equal (node_width net a) (node_width net b) both.takes in
        let x = kept a both.first has.1 in
        let y = kept b both.second (omega (arith, same, has.1)) in
        let u : BitVector = node_value s net a in
        let v : BitVector = node_value s net b in
        let e : u.width ≡ v.width = x.width ∙ same ∙ sym y.width in
        settled (Two operator a b) (f u v) word has.0 (is u v) (omega (arith, (sized u v x.bits y.bits e).1, small u.width (omega (arith, x.width, has.1)))) (run u v x.bits y.bits e x.width (x.word ∙ sym at_a) (y.word ∙ sym at_b))

    pub by_two : (a b p q word : ℕ) → HasNarrow net id operator a b → p ≡ word_at words a → q ≡ word_at words b → TwoWord f p q word → IsWordOf s net id word
    by_two a b p q word has at_a at_b run =
        twice a b p q word has at_a at_b (λ x y bx by e w nx ny. run x y bx by e nx ny)

    pub by_masked : (a b mask p q word : ℕ) → HasNarrow net id operator a b → IsMask mask (node_width net a) → p ≡ word_at words a → q ≡ word_at words b → MaskedWord f p q mask word → IsWordOf s net id word
    by_masked a b mask p q word has ones at_a at_b run =
        twice a b p q word has at_a at_b (λ x y bx by e w nx ny. run x y bx by e (omega (arith, w, has.1)) nx ny (subst (IsMask mask) (sym w) ones))

  pub joined : (a b shift p q word : ℕ) → Has net id (Two Concat a b) → node_width net a + node_width net b ≤ 64 → shift ≡ node_width net b → p ≡ word_at words a → q ≡ word_at words b → JoinedWord p q shift word → IsWordOf s net id word
  unfolding two_value op.concat
  joined a b shift p q word has narrow by at_a at_b run =
      let both = of_two net id a b Concat valid has in
      let x = kept a both.first (omega (arith, narrow)) in
      let y = kept b both.second (omega (arith, narrow)) in
      let u : BitVector = node_value s net a in
      let v : BitVector = node_value s net b in
      settled (Two Concat a b) (op.concat u v) word has refl (omega (arith, x.width, y.width, narrow)) (run u v x.bits y.bits (omega (arith, x.width, y.width, narrow)) (x.word ∙ sym at_a) (y.word ∙ sym at_b) (by ∙ sym y.width))

  pub cut : (a upper lower mask p word : ℕ) → Has net id (Slice a upper lower) → IsNarrow net a → IsMask mask (upper - lower + 1) → p ≡ word_at words a → SlicedWord p lower mask word → IsWordOf s net id word
  unfolding op.slice
  cut a upper lower mask p word has narrow ones at run =
      let o = of_slice net id a upper lower valid has in
      let x = kept a o.0 narrow in
      let u : BitVector = node_value s net a in
      settled (Slice a upper lower) (op.slice u upper lower) word has refl (omega (arith, o.1, o.2, narrow)) (run u upper x.bits (omega (arith, x.width, narrow)) o.1 (omega (arith, x.width, o.2)) (x.word ∙ sym at) ones)

  pub chosen : (condition a b r p q word : ℕ) → Has net id (Ite condition a b) → IsNarrow net a → r ≡ word_at words condition → p ≡ word_at words a → q ≡ word_at words b → ChosenWord r p q word → IsWordOf s net id word
  chosen condition a b r p q word has narrow at_c at_a at_b run =
      let o = of_ite net id condition a b valid has in
      let c = kept condition o.chooser (omega (arith, o.one_bit)) in
      let x = kept a o.first narrow in
      let y = kept b o.second (omega (arith, o.same, narrow)) in
      let u : BitVector = node_value s net a in
      let v : BitVector = node_value s net b in
      let w : BitVector = node_value s net condition in
      settled (Ite condition a b) (ite_value w u v) word has refl (omega (arith, ite_width w u v (x.width ∙ o.same ∙ sym y.width), x.width, narrow)) (run w u v (c.word ∙ sym at_c) (x.word ∙ sym at_a) (y.word ∙ sym at_b))
