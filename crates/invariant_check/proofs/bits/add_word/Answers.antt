use Rattle.std.proofs.Common.{◌≡◌, ℕ, suc, ◌+◌, List, ◌∷◌, [], ◌++◌, length-append, ap, subst, ◌∙◌, append_assoc, arith}
use Rattle.invariant_check.specs.Bits.{bit_name, bit_names}
use Rattle.invariant_check.specs.inner.FirstNames.{AreFirst}
use Rattle.invariant_check.proofs.Reading.{length-bit_names}
use Rattle.invariant_check.proofs.bits.add_word.Goals as goal

pub loop-bit-preserved : goal.loop-bit-preserved
loop-bit-preserved c = record {
  count = omega (arith, c.in_ok-count.ensures.count, c.loop-bit.invariant.count);
  first = λ bits first is.
      let name = c.args.name.now in
      let k = c.loop-bit.bit in
      let next : suc k ≡ k + 1 = omega arith in
      let text : c.as_slice.result.now ≡ bit_name name k = c.as_slice.ensures ∙ c.in_ok-push_bit_name.ensures
      ∙ ap (λ (t : List ℕ). t ++ bit_name name k) c.clear.ensures in
      let whole : (bits ++ bit_names name k) ++ c.as_slice.result.now ∷ [] ≡ bits ++ bit_names name (k + 1) =
      ap (λ (t : List ℕ). (bits ++ bit_names name k) ++ t ∷ []) text
      ∙ append_assoc bits (bit_names name k) (bit_name name k ∷ []) ∙ ap (λ n. bits ++ bit_names name n) next in
      subst (λ (bs : List (List ℕ)). AreFirst c.add_bit.new.names c.add_bit.new.numbers.items bs) whole
      (c.in_ok-count.ensures.first (bits ++ bit_names name k) (c.loop-bit.invariant.first bits first is)
      (omega (arith, length-append bits (bit_names name k), length-bit_names name k, c.loop-bit.invariant.count, is)));
}
