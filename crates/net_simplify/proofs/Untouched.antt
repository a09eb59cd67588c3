-- Operators that leave their operand as it is.
use Rattle.std.proofs.Common.{◌≡◌, ℕ, ◌+◌, ◌-◌, ◌%◌, ◌^◌, ◌<◌, ◌≤◌, ◌⊎◌, inl, inr, List, [], length, refl, sym, ap, ap₂, subst, ◌∙◌, arith}
use Rattle.std.specs.Prelude.{count_ones, nat_eq, nat_lt, if◌then◌else◌}
use Rattle.std.specs.Int.Count.{ones}
use Rattle.std.proofs.lemmas.Bool.{cases_lt}
use Rattle.kw_bits.specs.BitVector.{BitVector, IsBits}
use Rattle.kw_bits.specs.Laws.{HasWidth}
use Rattle.kw_bits.specs.Operators as op
use Rattle.kw_bits.proofs.OperatorLaws.{sext-HasWidth, slice-sext, slice-whole}
use Rattle.net_graph.specs.Laws.{Feeds}
use Rattle.net_graph.specs.Nets.{IsNet, op_width, Stands, width_at, widths_of}
use Rattle.net_graph.specs.Operators.{one_value, one_width, sext_value, uext_value}
use Rattle.net_graph.specs.Values.{node_value, Sources}
use Rattle.net_graph.specs.declared.node.NetOne.{NetOne}
use Rattle.net_graph.specs.declared.node.NetOne.TheVariants.{RedAnd, RedOr, RedXor}
use Rattle.net_graph.specs.declared.node.NetOp.{NetOp}
use Rattle.net_graph.specs.declared.node.NetOp.TheVariants.{One, Slice, Uext, Sext}
use Rattle.net_graph.proofs.OneByOne.{length-one_by_one}
use Rattle.net_simplify.specs.inner.Forms.{Equals, IsReduction}
use Rattle.net_simplify.specs.declared.form.Form.TheVariants.{Node}
use Rattle.net_simplify.proofs.Standing.{bits_node}
use Rattle.net_simplify.proofs.Units.{same_parts}

-- ---- one bit

module _ (x : BitVector) (bit : HasWidth x 1) where
  below : x.number < 2
  below = subst (λ w. x.number < 2 ^ w) bit.1 bit.0.in_range

  -- what makes one bit of a number, 0 of 0 and 1 of 1
  by_number : (f : ℕ → ℕ) → f 0 ≡ 0 → f 1 ≡ 1 → f x.number ≡ x.number
  by_number f zero one = by (cases_lt x.number 1)
    where
      by : (x.number < 1) ⊎ (1 ≤ x.number) → f x.number ≡ x.number
      by (inl h) = let e : x.number ≡ 0 = omega arith in ap f e ∙ zero ∙ sym e
      by (inr h) = let e : x.number ≡ 1 = omega (arith, below) in ap f e ∙ one ∙ sym e

  redand-bit : op.redand x ≡ x
  unfolding op.redand op.flag
  redand-bit =
      same_parts x 1 (if nat_eq x.number (2 ^ x.width - 1) then 1 else 0) (sym bit.1)
      (ap (λ w. if nat_eq x.number (2 ^ w - 1) then 1 else 0) bit.1 ∙ by_number (λ n. if nat_eq n 1 then 1 else 0) refl refl)

  redor-bit : op.redor x ≡ x
  unfolding op.redor op.flag
  redor-bit = same_parts x 1 (if nat_lt 0 x.number then 1 else 0) (sym bit.1) (by_number (λ n. if nat_lt 0 n then 1 else 0) refl refl)

  redxor-bit : op.redxor x ≡ x
  unfolding op.redxor ones
  redxor-bit = same_parts x 1 (count_ones x.number % 2) (sym bit.1) (by_number (λ n. count_ones n % 2) refl refl)

-- ---- all bits

sext-none : (x : BitVector) → IsBits x → op.sext x x.width ≡ x
sext-none x p =
    let kept = sext-HasWidth x x.width p (omega arith) p.no_wider in
    sym (slice-whole (op.sext x x.width) kept.0) ∙ ap (λ w. op.slice (op.sext x x.width) (w - 1) 0) kept.1 ∙ slice-sext x x.width p (omega arith)

module _ (net : List NetOp) (is : IsNet net) where
  within : (id : ℕ) → id < length (widths_of net) → id < length net
  within id h = omega (arith, length-one_by_one op_width [] net)

  pub slice_untouched : (a upper lower width : ℕ) → Stands (widths_of net) (Slice a upper lower) → width ≡ width_at (widths_of net) a → lower ≡ 0 → upper ≡ width - 1 → Equals net (Slice a upper lower) (Node a)
  slice_untouched a upper lower width stands w l u =
      let above : upper < width_at (widths_of net) a = stands.2 in
      record {
        width = omega arith;
        value = λ s feeds.
            let bits = bits_node net is s a feeds (within a stands.0) in
            sym (slice-whole (node_value s net a) bits.0) ∙ ap₂ (op.slice (node_value s net a)) (ap (λ k. k - 1) (bits.1 ∙ sym w) ∙ sym u) (sym l);
        reads = λ inputs states h. tt;
      }

  pub uext_untouched : (a added : ℕ) → Stands (widths_of net) (Uext a added) → added ≡ 0 → Equals net (Uext a added) (Node a)
  unfolding uext_value op.zext
  uext_untouched a added stands none = record {
    width = omega arith;
    value = λ s feeds. sym (same_parts (node_value s net a) ((node_value s net a).width + added) (node_value s net a).number (omega arith) refl);
    reads = λ inputs states h. tt;
  }

  pub sext_untouched : (a added : ℕ) → Stands (widths_of net) (Sext a added) → added ≡ 0 → Equals net (Sext a added) (Node a)
  unfolding sext_value
  sext_untouched a added stands none = record {
    width = omega arith;
    value = λ s feeds.
        let bits = bits_node net is s a feeds (within a stands.0) in
        let as_wide : (node_value s net a).width ≡ (node_value s net a).width + added = omega arith in
        sym (sext-none (node_value s net a) bits.0) ∙ ap (op.sext (node_value s net a)) as_wide;
    reads = λ inputs states h. tt;
  }

  bit : (a width : ℕ) → a < length (widths_of net) → width ≡ width_at (widths_of net) a → width ≡ 1 → (s : Sources) → Feeds s net → HasWidth (node_value s net a) 1
  bit a width h w one s feeds = let bits = bits_node net is s a feeds (within a h) in (bits.0, bits.1 ∙ sym w ∙ one)

  reduced_bit : (operator : NetOne) (x : BitVector) → IsReduction operator → HasWidth x 1 → one_value operator x ≡ x
  unfolding one_value
  reduced_bit RedAnd x h bit = redand-bit x bit
  reduced_bit RedOr x h bit = redor-bit x bit
  reduced_bit RedXor x h bit = redxor-bit x bit
  reduced_bit _ x h bit = absurd h

  reduced_width : (operator : NetOne) (width : ℕ) → IsReduction operator → one_width operator width ≡ 1
  unfolding one_width
  reduced_width RedAnd width h = refl
  reduced_width RedOr width h = refl
  reduced_width RedXor width h = refl
  reduced_width _ width h = absurd h

  pub reduction_untouched : (operator : NetOne) (a width : ℕ) → Stands (widths_of net) (One operator a) → IsReduction operator → width ≡ width_at (widths_of net) a → width ≡ 1 → Equals net (One operator a) (Node a)
  reduction_untouched operator a width stands is_reduction w one = record {
    width = sym w ∙ one ∙ sym (reduced_width operator (width_at (widths_of net) a) is_reduction);
    value = λ s feeds. sym (reduced_bit operator (node_value s net a) is_reduction (bit a width stands w one s feeds));
    reads = λ inputs states r. tt;
  }
