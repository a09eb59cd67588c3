-- The bits of a number.
use Rattle.std.proofs.Common.{◌≡◌, ℕ, zero, suc, ◌+◌, ◌*◌, ◌/◌, ◌%◌, ◌^◌, ◌<◌, eqb, length, refl, sym, ap, ap₂, ◌∙◌, arith, inl, inr}
use Rattle.std.proofs.Math.Nat.{mod-one, mod-eq_of_lt}
use Rattle.std.proofs.lemmas.Bool.{cases_eq, eq-eqb, ne_eqb}
use Rattle.std.proofs.lemmas.List.{length_push}
use Rattle.std.proofs.lemmas.Nat.{mod-pow-add}
use Rattle.aig_blast.specs.BitLists.{bit, number, as_bits}
use Rattle.aig_blast.specs.Steps.{digits}
use Rattle.aig_blast.proofs.Numbers.{number-push}

pub length-digits : (n k : ℕ) → length (digits n k) ≡ k
length-digits n zero = refl
length-digits n (suc k) = omega (arith, length_push (digits n k) (eqb (n / 2 ^ k % 2) 1), length-digits n k)

bit-eqb : (n : ℕ) → bit (eqb (n % 2) 1) ≡ n % 2
bit-eqb n =
    elim (cases_eq (n % 2) 1) [
      | inl one ↦ ap bit (eq-eqb (n % 2) 1 one) ∙ sym one
      | inr other ↦ let none : 0 ≡ n % 2 = omega arith in ap bit (ne_eqb (n % 2) 1 other) ∙ none
    ]

pub number-digits : (n k : ℕ) → number (digits n k) ≡ n % 2 ^ k
number-digits n zero = sym (mod-one n)
number-digits n (suc k) =
    let next : 1 + k ≡ suc k = omega arith in
    number-push (digits n k) (eqb (n / 2 ^ k % 2) 1) ∙ ap₂ (λ a w. a + 2 ^ w * bit (eqb (n / 2 ^ k % 2) 1)) (number-digits n k) (length-digits n k)
    ∙ ap (λ b. n % 2 ^ k + 2 ^ k * b) (bit-eqb (n / 2 ^ k)) ∙ omega arith
    ∙ sym (mod-pow-add n 1 k) ∙ ap (λ w. n % 2 ^ w) next

pub digits-formula : (width n : ℕ) → n < 2 ^ width → as_bits (digits n width) ≡ record { width = width; number = n }
digits-formula width n small =
    ap₂ (λ w x. record { width = w; number = x }) (length-digits n width) (number-digits n width ∙ mod-eq_of_lt small)
