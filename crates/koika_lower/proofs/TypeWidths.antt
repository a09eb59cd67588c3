-- The width of a type is that of its base times its lengths, one by one.
use Rattle.std.proofs.Common.{◌≡◌, ℕ, zero, suc, ◌+◌, ◌*◌, ◌<◌, ◌≤◌, List, [], ◌∷◌, length, drop, get_or, add-one, drop-cons, arith, refl, ap, sym, ◌∙◌}
use Rattle.koika_check.specs.Types.{all_lengths}

-- the length at an index, and those behind it
pub lengths-next : (ls : List ℕ) (i x : ℕ) → i < length ls → all_lengths (drop i ls) ≡ get_or ls i x * all_lengths (drop (i + 1) ls)
lengths-next ls i x within = ap all_lengths (drop-cons ls i x within) ∙ ap (λ k. get_or ls i x * all_lengths (drop k ls)) (sym (add-one i))

-- behind the last there is none
pub lengths-end : (ls : List ℕ) (i : ℕ) → length ls ≤ i → all_lengths (drop i ls) ≡ 1
lengths-end [] zero h = refl
lengths-end [] (suc i) h = refl
lengths-end (x ∷ ls) zero h = absurd (omega arith)
lengths-end (x ∷ ls) (suc i) h = lengths-end ls i (omega arith)

-- a factor of a number above 0 is no greater
pub factor : (a b w : ℕ) → a * b ≡ w → 1 ≤ w → a ≤ w
factor a zero w e h = absurd (omega arith)
factor a (suc b) w e h = omega arith

-- a product that is at most 128 isn't cut off
pub width-next : (width one rest whole made : ℕ) → width * (one * rest) ≡ whole → 1 ≤ whole → whole ≤ 128 → (width * one ≤ 128 → made ≡ width * one) → made * rest ≡ whole
width-next width one rest whole made e some few is =
    let together : width * one * rest ≡ whole = omega arith in
    let within = factor (width * one) rest whole together some in
    ap (λ k. k * rest) (is (omega (arith, within))) ∙ together
