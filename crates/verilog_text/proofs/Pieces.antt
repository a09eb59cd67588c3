-- Each node of a circuit is an operand that has its value, or the expression of a wire that has.
use Rattle.std.proofs.Common.{◌≡◌, ◌^◌, ℕ, zero, suc, ◌+◌, ◌-◌, ◌<◌, ◌≤◌, Bool, true, false, cond, eqb, Some, ⊎_elim, arith, refl, sym, ap, ap₂, subst, ◌∙◌}
use Rattle.std.specs.Prelude.{slice_get}
use Rattle.std.proofs.Math.Nat.{eq-or-lt_of_le}
use Rattle.std.proofs.lemmas.Bool.{eqb-false, eqb-true}
use Rattle.std.proofs.lemmas.Nat.{pow_pos}
use Rattle.std.proofs.lemmas.Option.{get_or_from_slice_get}
use Rattle.kw_bits.specs.BitVector.{BitVector, IsBits, zero_at}
use Rattle.kw_bits.specs.Laws.{HasWidth}
use Rattle.kw_bits.specs.Operators as op
use Rattle.kw_bits.proofs.OperatorLaws.{slice-HasWidth, sext-HasWidth}
use Rattle.net_graph.specs.Operators.{one_at, one_value, one_width, two_value, two_width, ite_value, sext_value, uext_value, TakesTwo}
use Rattle.net_graph.proofs.OperatorWidths.{one_at-IsBits}
use Rattle.net_graph.specs.declared.node.NetOne.{NetOne}
use Rattle.net_graph.specs.declared.node.NetOne.TheVariants as net_ones
use Rattle.net_graph.specs.declared.node.NetTwo.{NetTwo}
use Rattle.net_graph.specs.declared.node.NetTwo.TheVariants as net_twos
use Rattle.verilog_text.specs.Modules.{AmountFits, FormFits, HasOperand, InfixFits, IsSignal, PrefixFits, Widths}
use Rattle.verilog_text.specs.Runs.{Signals, chosen, extended, form_value, infix_value, operand_value, prefix_value}
use Rattle.verilog_text.specs.declared.module.Form.{Form}
use Rattle.verilog_text.specs.declared.module.Form.TheVariants.{One, Two, Choice, Slice, Extension}
use Rattle.verilog_text.specs.declared.module.Infix.{Infix}
use Rattle.verilog_text.specs.declared.module.Infix.TheVariants as twos
use Rattle.verilog_text.specs.declared.module.Operand.{Operand}
use Rattle.verilog_text.specs.declared.module.Operand.TheVariants.{Constant, Input, Register as Held, Wire as Inner}
use Rattle.verilog_text.specs.declared.module.Prefix.{Prefix}
use Rattle.verilog_text.specs.declared.module.Prefix.TheVariants as ones
use Rattle.verilog_text.specs.declared.nodes.Piece.{Piece}
use Rattle.verilog_text.specs.declared.nodes.Piece.TheVariants.{Same, Made}
use Rattle.verilog_text.specs.inner.Making.{amount, least, one_form, sext_of, sext_piece, slice_of, slice_piece, two_form, zext_of}
use Rattle.verilog_text.proofs.Constants.{from-false, not-none}
use Rattle.verilog_text.proofs.FormValues.{chosen-ite, clipped, clipped-IsBits, implied, joined-zeros, slice-all, sll-clipped, sra-clipped, srl-clipped, uext-none}
use Rattle.verilog_text.proofs.SignBits.{extended-sext, sext-none}

-- ---- operands

-- the operand has this value
abbrev pub Gives : Signals → Operand → BitVector → Type 0
Gives s (Constant constant) value = constant ≡ value
Gives s (Input number) value = slice_get s.inputs number ≡ Some value
Gives s (Held number) value = slice_get s.registers number ≡ Some value
Gives s (Inner number) value = slice_get s.wires number ≡ Some value

-- the operand has this width and this value of the width
pub record Shows (ws : Widths) (s : Signals) (a : Operand) (width : ℕ) (value : BitVector) : Type 0 where
  pub has : HasOperand ws a width
  pub gives : Gives s a value
  pub fits : HasWidth value width

value-is : (s : Signals) (a : Operand) (value : BitVector) → Gives s a value → operand_value s a ≡ value
value-is s (Constant constant) value is = is
value-is s (Input number) value is = get_or_from_slice_get s.inputs number value _ is
value-is s (Held number) value is = get_or_from_slice_get s.registers number value _ is
value-is s (Inner number) value is = get_or_from_slice_get s.wires number value _ is

-- a constant shows itself
pub constant-shows : (ws : Widths) (s : Signals) (value : BitVector) (width : ℕ) → HasWidth value width
    → Shows ws s (Constant value) width value
constant-shows ws s value width fits = record { has = fits; gives = refl; fits = fits }

-- the piece has this width and this value
abbrev pub PieceShows : Widths → Signals → Piece → ℕ → BitVector → Type 0
PieceShows ws s (Same a) width value = Shows ws s a width value
PieceShows ws s (Made form) width value = FormFits ws width form × (form_value s form ≡ value)

module _ (ws : Widths) (s : Signals) where
  -- the value of an operand that shows one
  pub shown : (a : Operand) (width : ℕ) (value : BitVector) → Shows ws s a width value → operand_value s a ≡ value
  shown a width value shows = value-is s a value shows.gives

  -- ---- one operand

  abbrev Fits : ℕ → Form → BitVector → Type 0
  Fits width form value = FormFits ws width form × (form_value s form ≡ value)

  one : (operator : Prefix) (a : Operand) (w own : ℕ) (v : BitVector) → Shows ws s a w v → PrefixFits operator w own
      → Fits own (One operator a) (prefix_value operator v)
  one operator a w own v shows fits = ((w, shows.has, fits), ap (prefix_value operator) (shown a w v shows))

  two : (operator : Infix) (a b : Operand) (w u own : ℕ) (v x : BitVector) → Shows ws s a w v → Shows ws s b u x
      → InfixFits operator w u own → AmountFits operator b w
      → Fits own (Two operator a b) (infix_value operator v x)
  two operator a b w u own v x left right fits small =
      ((w, (u, left.has, right.has, fits, small)), ap₂ (infix_value operator) (shown a w v left) (shown b u x right))

  one-constant : (w : ℕ) (v : BitVector) → HasWidth v w → Shows ws s (Constant (one_at w)) w (one_at v.width)
  one-constant w v fits =
      let bits = fits.0 in
      let one-bits : IsBits (one_at w) =
      subst (λ k. IsBits (one_at k)) fits.1 (one_at-IsBits v.width bits.some_bit bits.no_wider) in
      record {
        has = (one-bits, refl);
        gives = ap one_at (sym fits.1);
        fits =
            (subst (λ k. IsBits (one_at k)) (sym fits.1) one-bits, fits.1);
      }

  pub one-shows : (operator : NetOne) (a : Operand) (w : ℕ) (v : BitVector) → Shows ws s a w v
      → Fits (one_width operator w) (one_form operator w a) (one_value operator v)
  unfolding one_form one_value one_width prefix_value infix_value PrefixFits InfixFits
  one-shows net_ones.Not a w v shows = one ones.Not a w w v shows refl
  one-shows net_ones.Neg a w v shows = one ones.Neg a w w v shows refl
  one-shows net_ones.Inc a w v shows =
      two twos.Add a (Constant (one_at w)) w w w v (one_at v.width) shows (one-constant w v shows.fits) (refl, refl)
      tt
  one-shows net_ones.Dec a w v shows =
      two twos.Sub a (Constant (one_at w)) w w w v (one_at v.width) shows (one-constant w v shows.fits) (refl, refl)
      tt
  one-shows net_ones.RedAnd a w v shows = one ones.RedAnd a w 1 v shows refl
  one-shows net_ones.RedOr a w v shows = one ones.RedOr a w 1 v shows refl
  one-shows net_ones.RedXor a w v shows = one ones.RedXor a w 1 v shows refl

  -- ---- two operands

  -- an amount of a shift has the width of the operand, is at most that where it is a constant, and shifts as the operand
  amount-has : (b : Operand) (w : ℕ) → HasOperand ws b w → HasOperand ws (amount b) w
  amount-has (Constant value) w has = (clipped-IsBits value has.0, has.1)
  amount-has (Input number) w has = has
  amount-has (Held number) w has = has
  amount-has (Inner number) w has = has

  amount-fits : (b : Operand) (w u : ℕ) → HasOperand ws b u → w ≡ u
      → AmountFits twos.ShiftLeft (amount b) w × AmountFits twos.ShiftRight (amount b) w
      × AmountFits twos.ShiftSigned (amount b) w
  amount-fits (Constant value) w u has same =
      let small : least value ≤ w = omega (arith, has.1, same) in (small, small, small)
  amount-fits (Input number) w u has same = (tt, tt, tt)
  amount-fits (Held number) w u has same = (tt, tt, tt)
  amount-fits (Inner number) w u has same = (tt, tt, tt)

  amount-value : (shift : BitVector → BitVector) (b : Operand) (x : BitVector) → Gives s b x
      → shift (clipped x) ≡ shift x → shift (operand_value s (amount b)) ≡ shift x
  amount-value shift (Constant value) x gives same = ap (λ (c : BitVector). shift (clipped c)) gives ∙ same
  amount-value shift (Input number) x gives same = ap shift (value-is s (Input number) x gives)
  amount-value shift (Held number) x gives same = ap shift (value-is s (Held number) x gives)
  amount-value shift (Inner number) x gives same = ap shift (value-is s (Inner number) x gives)

  shifted : (operator : Infix) (a b : Operand) (w u : ℕ) (v x : BitVector) → Shows ws s a w v → Shows ws s b u x
      → InfixFits operator w u w → AmountFits operator (amount b) w
      → infix_value operator v (clipped x) ≡ infix_value operator v x
      → Fits w (Two operator a (amount b)) (infix_value operator v x)
  shifted operator a b w u v x left right fits small same = (
    (w, (u, left.has, amount-has b u right.has, fits, small)),
    ap (λ (y : BitVector). infix_value operator y (operand_value s (amount b))) (shown a w v left)
        ∙ amount-value (infix_value operator v) b x right.gives same,
  )

  pub two-shows : (operator : NetTwo) (a b : Operand) (w u : ℕ) (v x : BitVector) → Shows ws s a w v → Shows ws s b u x
      → TakesTwo operator w u
      → Fits (two_width operator w u) (two_form operator a b) (two_value operator v x)
  unfolding two_form two_value two_width infix_value InfixFits TakesTwo
  two-shows net_twos.And a b w u v x p q t = two twos.And a b w u w v x p q (refl, sym t) tt
  two-shows net_twos.Or a b w u v x p q t = two twos.Or a b w u w v x p q (refl, sym t) tt
  two-shows net_twos.Xor a b w u v x p q t = two twos.Xor a b w u w v x p q (refl, sym t) tt
  two-shows net_twos.Nand a b w u v x p q t = two twos.Nand a b w u w v x p q (refl, sym t) tt
  two-shows net_twos.Nor a b w u v x p q t = two twos.Nor a b w u w v x p q (refl, sym t) tt
  two-shows net_twos.Xnor a b w u v x p q t = two twos.Xnor a b w u w v x p q (refl, sym t) tt
  two-shows net_twos.Add a b w u v x p q t = two twos.Add a b w u w v x p q (refl, sym t) tt
  two-shows net_twos.Sub a b w u v x p q t = two twos.Sub a b w u w v x p q (refl, sym t) tt
  two-shows net_twos.Mul a b w u v x p q t = two twos.Mul a b w u w v x p q (refl, sym t) tt
  two-shows net_twos.Sll a b w u v x p q t =
      shifted twos.ShiftLeft a b w u v x p q refl (amount-fits b w u q.has t).0
      (sll-clipped v x (p.fits.1 ∙ t ∙ sym q.fits.1))
  two-shows net_twos.Srl a b w u v x p q t =
      shifted twos.ShiftRight a b w u v x p q refl (amount-fits b w u q.has t).1
      (srl-clipped v x p.fits.0 (p.fits.1 ∙ t ∙ sym q.fits.1))
  two-shows net_twos.Sra a b w u v x p q t =
      shifted twos.ShiftSigned a b w u v x p q refl (amount-fits b w u q.has t).2
      (sra-clipped v x (p.fits.1 ∙ t ∙ sym q.fits.1))
  two-shows net_twos.EqBits a b w u v x p q t = two twos.Equal a b w u 1 v x p q (t, refl) tt
  two-shows net_twos.Neq a b w u v x p q t = two twos.Unequal a b w u 1 v x p q (t, refl) tt
  two-shows net_twos.Ult a b w u v x p q t = two twos.Below a b w u 1 v x p q (t, refl) tt
  two-shows net_twos.Ulte a b w u v x p q t = two twos.AtMost a b w u 1 v x p q (t, refl) tt
  two-shows net_twos.Ugt a b w u v x p q t = two twos.Below b a u w 1 x v q p (sym t, refl) tt
  two-shows net_twos.Ugte a b w u v x p q t = two twos.AtMost b a u w 1 x v q p (sym t, refl) tt
  two-shows net_twos.Slt a b w u v x p q t = two twos.SignedBelow a b w u 1 v x p q (t, refl) tt
  two-shows net_twos.Slte a b w u v x p q t = two twos.SignedAtMost a b w u 1 v x p q (t, refl) tt
  two-shows net_twos.Sgt a b w u v x p q t = two twos.SignedBelow b a u w 1 x v q p (sym t, refl) tt
  two-shows net_twos.Sgte a b w u v x p q t = two twos.SignedAtMost b a u w 1 x v q p (sym t, refl) tt
  two-shows net_twos.Iff a b w u v x p q t = two twos.Equal a b w u 1 v x p q (t.0 ∙ sym t.1, refl) tt
  two-shows net_twos.Implies a b w u v x p q t =
      let made = two twos.AtMost a b w u 1 v x p q (t.0 ∙ sym t.1, refl) tt in
      (made.0, made.1 ∙ implied v x p.fits.0 q.fits.0 (p.fits.1 ∙ t.0) (q.fits.1 ∙ t.1))
  two-shows net_twos.Concat a b w u v x p q t = two twos.Join a b w u (w + u) v x p q refl tt

  -- ---- selections and extensions

  -- an operand that shows another value, since both are equal
  showing : (a : Operand) (w own : ℕ) (v x : BitVector) → Shows ws s a w v → w ≡ own → v ≡ x → Shows ws s a own x
  showing a w own v x shows wide same = record {
    has = subst (HasOperand ws a) wide shows.has;
    gives = subst (Gives s a) same shows.gives;
    fits = subst (λ (y : BitVector). HasWidth y own) same (shows.fits.0, shows.fits.1 ∙ wide);
  }

  slice-made : (a : Operand) (w upper lower : ℕ) (v : BitVector) → Shows ws s a w v → lower ≤ upper → upper < w
      → (upper - lower + 1 ≡ w → ⊥) → IsSignal a
      → Fits (upper - lower + 1) (Slice a upper lower) (op.slice v upper lower)
  slice-made a w upper lower v shows order within some is =
      let fewer : upper - lower + 1 < w =
      ⊎_elim (λ all. absurd (some all)) (λ less. less) (eq-or-lt_of_le (omega (arith, within, order))) in (
        (is, (w, shows.has, order, within, fewer, refl)),
        ap (λ (y : BitVector). op.slice y upper lower)
            (shown a w v shows),
      )

  slice-some : (a : Operand) (w upper lower : ℕ) (v : BitVector) → Shows ws s a w v → lower ≤ upper → upper < w
      → (upper - lower + 1 ≡ w → ⊥)
      → PieceShows ws s (slice_piece a upper lower) (upper - lower + 1) (op.slice v upper lower)
  slice-some (Constant value) w upper lower v shows order within some =
      let inside : upper < v.width = subst (λ k. upper < k) (sym shows.fits.1) within in
      let fits = slice-HasWidth v upper lower shows.fits.0 order inside in
      showing (Constant (op.slice value upper lower)) (upper - lower + 1) (upper - lower + 1)
      (op.slice value upper lower) (op.slice v upper lower)
      (constant-shows ws s (op.slice value upper lower) (upper - lower + 1)
      (subst (λ (y : BitVector). HasWidth (op.slice y upper lower) (upper - lower + 1)) (sym shows.gives) fits))
      refl (ap (λ (y : BitVector). op.slice y upper lower) shows.gives)
  slice-some (Input number) w upper lower v shows order within some =
      slice-made (Input number) w upper lower v shows order within some tt
  slice-some (Held number) w upper lower v shows order within some =
      slice-made (Held number) w upper lower v shows order within some tt
  slice-some (Inner number) w upper lower v shows order within some =
      slice-made (Inner number) w upper lower v shows order within some tt

  pub slice-shows : (a : Operand) (w upper lower : ℕ) (v : BitVector) → Shows ws s a w v → lower ≤ upper → upper < w
      → PieceShows ws s (slice_of a w upper lower) (upper - lower + 1) (op.slice v upper lower)
  slice-shows a w upper lower v shows order within = by (eqb (upper - lower + 1) w) refl
    where
      by : (all : Bool) → eqb (upper - lower + 1) w ≡ all
          → PieceShows ws s (cond all (Same a) (slice_piece a upper lower)) (upper - lower + 1) (op.slice v upper lower)
      by true is =
          let all : upper - lower + 1 ≡ w = eqb-true (upper - lower + 1) w is in
          let inside : upper < v.width = subst (λ k. upper < k) (sym shows.fits.1) within in
          showing a w (upper - lower + 1) v (op.slice v upper lower) shows (sym all)
          (sym (slice-all v upper lower shows.fits.0 order inside (all ∙ sym shows.fits.1)))
      by false is = slice-some a w upper lower v shows order within (λ all. eqb-false (upper - lower + 1) w is all)

  join-width : (k w : ℕ) → InfixFits twos.Join k w (w + k)
  unfolding InfixFits
  join-width k w = omega arith

  joined-value : (k : ℕ) (v : BitVector) → infix_value twos.Join (zero_at k) v ≡ uext_value v k
  unfolding infix_value
  joined-value k v = joined-zeros v k

  pub uext-shows : (a : Operand) (w added : ℕ) (v : BitVector) → Shows ws s a w v → w + added ≤ 128
      → PieceShows ws s (zext_of a added) (w + added) (uext_value v added)
  uext-shows a w zero v shows most = showing a w (w + 0) v (uext_value v 0) shows (omega arith) (sym (uext-none v))
  uext-shows a w (suc more) v shows most =
      let added : ℕ = suc more in
      let range : 0 < 2 ^ added = pow_pos added in
      let zeros : HasWidth (zero_at added) added =
      (record { some_bit = omega arith; no_wider = omega (arith, most); in_range = range }, refl) in
      let made =
      two twos.Join (Constant (zero_at added)) a added w (w + added) (zero_at added) v
      (constant-shows ws s (zero_at added) added zeros) shows (join-width added w) tt in
      from-false (λ p. PieceShows ws s p (w + added) (uext_value v added)) (eqb added 0) (Same a)
      (Made (Two twos.Join (Constant (zero_at added)) a)) (not-none more)
      (made.0, made.1 ∙ joined-value added v)

  sext-made : (a : Operand) (w added : ℕ) (v : BitVector) → Shows ws s a w v → 1 ≤ added → IsSignal a
      → Fits (w + added) (Extension a (w - 1) added) (sext_value v added)
  sext-made a w added v shows some is =
      let bits = shows.fits.0 in
      let positive : 1 ≤ w = subst (λ k. 1 ≤ k) shows.fits.1 bits.some_bit in
      let top : w ≡ w - 1 + 1 = omega (arith, positive) in
      let own : w + added ≡ added + (w - 1 + 1) = omega (arith, positive) in (
        (is, subst (HasOperand ws a) top shows.has, some, own),
        ap (λ (y : BitVector). extended y (w - 1) added) (shown a w v shows)
            ∙ extended-sext v (w - 1) added bits (shows.fits.1 ∙ top),
      )

  sext-some : (a : Operand) (w added : ℕ) (v : BitVector) → Shows ws s a w v → 1 ≤ added → w + added ≤ 128
      → PieceShows ws s (sext_piece a w added) (w + added) (sext_value v added)
  unfolding sext_value
  sext-some (Constant value) w added v shows some most =
      let bits = shows.fits.0 in
      let wider : v.width ≤ w + added = omega (arith, shows.fits.1) in
      let fits = sext-HasWidth v (w + added) bits wider most in
      let same : op.sext value (w + added) ≡ op.sext v (v.width + added) =
      ap₂ (λ (y : BitVector) (k : ℕ). op.sext y (k + added)) shows.gives (sym shows.fits.1) in
      showing (Constant (op.sext value (w + added))) (w + added) (w + added) (op.sext value (w + added))
      (op.sext v (v.width + added))
      (constant-shows ws s (op.sext value (w + added)) (w + added)
      (subst (λ (y : BitVector). HasWidth (op.sext y (w + added)) (w + added)) (sym shows.gives) fits))
      refl same
  sext-some (Input number) w added v shows some most = sext-made (Input number) w added v shows some tt
  sext-some (Held number) w added v shows some most = sext-made (Held number) w added v shows some tt
  sext-some (Inner number) w added v shows some most = sext-made (Inner number) w added v shows some tt

  pub sext-shows : (a : Operand) (w added : ℕ) (v : BitVector) → Shows ws s a w v → w + added ≤ 128
      → PieceShows ws s (sext_of a w added) (w + added) (sext_value v added)
  sext-shows a w zero v shows most =
      showing a w (w + 0) v (sext_value v 0) shows (omega arith) (sym (sext-none v shows.fits.0))
  sext-shows a w (suc more) v shows most =
      from-false (λ p. PieceShows ws s p (w + suc more) (sext_value v (suc more))) (eqb (suc more) 0) (Same a)
      (sext_piece a w (suc more)) (not-none more)
      (sext-some a w (suc more) v shows (omega arith) most)

  pub ite-shows : (c a b : Operand) (w : ℕ) (z v x : BitVector) → Shows ws s c 1 z → Shows ws s a w v → Shows ws s b w x
      → Fits w (Choice c a b) (ite_value z v x)
  ite-shows c a b w z v x condition left right = (
    (condition.has, left.has, right.has),
    ap₂ (λ (y : BitVector) (t : BitVector). chosen y t (operand_value s b)) (shown c 1 z condition) (shown a w v left)
        ∙ ap (λ (t : BitVector). chosen z v t) (shown b w x right) ∙ chosen-ite z v x condition.fits.0 condition.fits.1,
  )
