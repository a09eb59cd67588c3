-- Barrel shifters with no more stages than the width needs.
use Rattle.std.proofs.Common.{◌≡◌, ℕ, ◌+◌, ◌*◌, ◌/◌, ◌%◌, ◌^◌, ◌<◌, ◌≤◌, Bool, true, false, not, ltb, List, length, map, take, drop, replicate, sym, ap, ap₂, ◌∙◌, arith}
use Rattle.std.proofs.Math.Nat.{le-mul_of_pos_right}
use Rattle.std.proofs.lemmas.Bool.{ltb-true, ltb-false}
use Rattle.std.proofs.lemmas.List.{length-map, length-replicate}
use Rattle.kw_bits.proofs.Words.{shifted_out, shifted_down_out}
use Rattle.kw_bits.specs.Operators as op
use Rattle.kw_bits.proofs.Signs.{HasSign, sra-low, sra-high}
use Rattle.aig_blast.specs.BitLists.{number, as_bits}
use Rattle.aig_blast.specs.Steps.{choose, sign}
use Rattle.aig_blast.specs.inner.Steps.{zeros, some_one, sll, srl, down_after, down_short}
use Rattle.aig_blast.proofs.Numbers.{number-split, number-zeros, number-lt}
use Rattle.aig_blast.proofs.Shifting.{length-up_after, length-down_after, number-sll, number-srl, not-down_after, not-choose, map_not-replicate}
use Rattle.aig_blast.proofs.TestsOfBits.{some_one-ltb}
use Rattle.aig_blast.proofs.Signed.{HasSign-sign}
use Rattle.aig_blast.proofs.Formulas.{same_bits, not_not, not-formula, either-width}

-- where a high bit is set, the amount is at least the width, and else it is the number of the low bits
past : (m w t h y : ℕ) → w ≤ 2 ^ m → 0 < h → t + 2 ^ m * h ≡ y → w ≤ y
past m w t h y within some is = omega (arith, le-mul_of_pos_right {m = h} (2 ^ m) some)

up_by : (b : Bool) (m : ℕ) (xs ys : List Bool) → length xs ≤ 2 ^ m → b ≡ ltb 0 (number (drop m ys)) → number (choose b (zeros (length xs)) (sll xs (take m ys))) ≡ number xs * 2 ^ number ys % 2 ^ length xs
up_by true m xs ys within is =
    number-zeros (length xs) ∙ sym (shifted_out (number xs) (number ys) (length xs) (past m (length xs) (number (take m ys)) (number (drop m ys)) (number ys) within (ltb-true 0 (number (drop m ys)) (sym is)) (number-split m ys)))
up_by false m xs ys within is =
    let none : number (drop m ys) ≡ 0 = omega (arith, ltb-false 0 (number (drop m ys)) (sym is)) in
    let low : number (take m ys) ≡ number ys = omega (arith, number-split m ys, ap (λ h. 2 ^ m * h) none) in
    number-sll xs (take m ys) ∙ ap (λ n. number xs * 2 ^ n % 2 ^ length xs) low

-- the shifter up with stages for the first m bits of the amount alone
abbrev pub up_short : ℕ → List Bool → List Bool → List Bool
up_short m xs ys = choose (some_one (drop m ys)) (zeros (length xs)) (sll xs (take m ys))

pub number-up_short : (m : ℕ) (xs ys : List Bool) → length xs ≤ 2 ^ m → number (up_short m xs ys) ≡ number xs * 2 ^ number ys % 2 ^ length xs
number-up_short m xs ys within = up_by (some_one (drop m ys)) m xs ys within (some_one-ltb (drop m ys))

down_by : (b : Bool) (m : ℕ) (xs ys : List Bool) → length xs ≤ 2 ^ m → b ≡ ltb 0 (number (drop m ys)) → number (choose b (zeros (length xs)) (srl xs (take m ys))) ≡ number xs / 2 ^ number ys
down_by true m xs ys within is =
    number-zeros (length xs) ∙ sym (shifted_down_out (number xs) (number ys) (length xs) (number-lt xs) (past m (length xs) (number (take m ys)) (number (drop m ys)) (number ys) within (ltb-true 0 (number (drop m ys)) (sym is)) (number-split m ys)))
down_by false m xs ys within is =
    let none : number (drop m ys) ≡ 0 = omega (arith, ltb-false 0 (number (drop m ys)) (sym is)) in
    let low : number (take m ys) ≡ number ys = omega (arith, number-split m ys, ap (λ h. 2 ^ m * h) none) in
    number-srl xs (take m ys) ∙ ap (λ n. number xs / 2 ^ n) low

pub number-down_short : (m : ℕ) (xs ys : List Bool) → length xs ≤ 2 ^ m → number (down_short false m xs ys) ≡ number xs / 2 ^ number ys
number-down_short m xs ys within = down_by (some_one (drop m ys)) m xs ys within (some_one-ltb (drop m ys))

-- with ones above, it is the complement with zeros above
pub not-down_short : (m : ℕ) (xs ys : List Bool) → map not (down_short true m xs ys) ≡ down_short false m (map not xs) ys
not-down_short m xs ys =
    not-choose (some_one (drop m ys)) (replicate (length xs) true) (down_after true xs (take m ys) (length (take m ys)))
    ∙ ap₂ (choose (some_one (drop m ys))) (map_not-replicate (length xs) ∙ ap zeros (sym (length-map xs not))) (not-down_after xs (take m ys) (length (take m ys)))

pub up_short-formula : (m : ℕ) (xs ys : List Bool) → length xs ≤ 2 ^ m → as_bits (up_short m xs ys) ≡ op.sll (as_bits xs) (as_bits ys)
unfolding op.sll
up_short-formula m xs ys within =
    same_bits _ _ (either-width (some_one (drop m ys)) (zeros (length xs)) (sll xs (take m ys)) (length xs) (length-replicate (length xs) false) (length-up_after xs (take m ys) (length (take m ys)))) (number-up_short m xs ys within)

down_short-formula : (m : ℕ) (xs ys : List Bool) → length xs ≤ 2 ^ m → as_bits (down_short false m xs ys) ≡ op.srl (as_bits xs) (as_bits ys)
unfolding op.srl
down_short-formula m xs ys within =
    same_bits _ _ (either-width (some_one (drop m ys)) (zeros (length xs)) (srl xs (take m ys)) (length xs) (length-replicate (length xs) false) (length-down_after false xs (take m ys) (length (take m ys)))) (number-down_short m xs ys within)

sra-by_sign : (b : Bool) (m : ℕ) (xs ys : List Bool) → length xs ≤ 2 ^ m → HasSign b (as_bits xs) → as_bits (down_short b m xs ys) ≡ op.sra (as_bits xs) (as_bits ys)
sra-by_sign false m xs ys within low = down_short-formula m xs ys within ∙ sym (sra-low (as_bits xs) (as_bits ys) (number-lt xs) low)
sra-by_sign true m xs ys within high =
    ap as_bits (sym (not_not (down_short true m xs ys))) ∙ not-formula (map not (down_short true m xs ys))
    ∙ ap (λ zs. op.not (as_bits zs)) (not-down_short m xs ys) ∙ ap op.not (down_short-formula m (map not xs) ys (rw length-map within)) ∙ ap (λ a. op.not (op.srl a (as_bits ys))) (not-formula xs)
    ∙ sym (sra-high (as_bits xs) (as_bits ys) (number-lt xs) high)

pub srl_short-formula : (m : ℕ) (xs ys : List Bool) → length xs ≤ 2 ^ m → as_bits (down_short false m xs ys) ≡ op.srl (as_bits xs) (as_bits ys)
srl_short-formula m xs ys within = down_short-formula m xs ys within

pub sra_short-formula : (m : ℕ) (xs ys : List Bool) → 1 ≤ length xs → length xs ≤ 2 ^ m → as_bits (down_short (sign xs) m xs ys) ≡ op.sra (as_bits xs) (as_bits ys)
sra_short-formula m xs ys some within = sra-by_sign (sign xs) m xs ys within (HasSign-sign xs some)
