-- What each circuit computes, as the formula on numbers.
use Rattle.std.proofs.Common.{◌≡◌, ℕ, zero, suc, ◌+◌, ◌-◌, ◌*◌, ◌%◌, ◌^◌, ◌<◌, ◌≤◌, Bool, true, false, not, ◌&&◌, ◌||◌, cond, ltb, leb, List, [], ◌∷◌, ◌++◌, length, map, drop, replicate, refl, sym, ap, ap₂, ◌∙◌, arith}
use mathlib.Core.Bool.{beq}
use Rattle.std.specs.Prelude.{ℤ, pos, negsuc, int_lt, int_le}
use Rattle.std.proofs.lemmas.List.{length-append, length-replicate, length-map, length-take-le, length-drop, map-append}
use Rattle.kw_bits.specs.BitVector.{BitVector}
use Rattle.kw_bits.specs.Operators as op
use Rattle.kw_bits.proofs.Signs.{HasSign, int_lt-signed, sra-low, sra-high, sext-low, sext-high}
use Rattle.aig_blast.specs.BitLists.{number, as_bits, xor, choice, zip_with}
use Rattle.aig_blast.specs.Steps as s
use Rattle.aig_blast.specs.inner.Steps as inner_s
use Rattle.aig_blast.proofs.Numbers.{number-lt, number-not, number-append, number-zeros, number-take, number-drop}
use Rattle.aig_blast.proofs.Sums.{length-sum_after, number-add, number-sub, number-neg, ult-ltb}
use Rattle.aig_blast.proofs.Products.{length-product_after, number-mul}
use Rattle.aig_blast.proofs.Shifting.{length-up_after, length-down_after, number-sll, number-srl, not-down_after}
use Rattle.aig_blast.proofs.TestsOfBits.{all_ones, all_ones-eqb, some_one-ltb, odd_ones, odd_ones-count, equal-eqb}
use Rattle.aig_blast.proofs.PlaceByPlace.{number-and, number-or, number-xor}
use Rattle.std.proofs.lemmas.Bool.Decides.{nat_tests}
use Rattle.aig_blast.proofs.Signed.{HasSign-sign}

-- a bit vector by its width and its number
pub same_bits : (a b : BitVector) → a.width ≡ b.width → a.number ≡ b.number → a ≡ b
same_bits a b e f = ap₂ (λ w n. record { width = w; number = n }) e f

pub add-formula : (xs ys : List Bool) → length xs ≡ length ys → as_bits (inner_s.add xs ys) ≡ op.add (as_bits xs) (as_bits ys)
unfolding op.add
add-formula xs ys same = same_bits _ _ (length-sum_after false xs ys (length xs)) (number-add xs ys same)

pub sub-formula : (xs ys : List Bool) → length xs ≡ length ys → as_bits (inner_s.sub xs ys) ≡ op.sub (as_bits xs) (as_bits ys)
unfolding op.sub
sub-formula xs ys same = same_bits _ _ (length-sum_after true xs (map not ys) (length xs)) (number-sub xs ys same)

pub neg-formula : (xs : List Bool) → as_bits (inner_s.neg xs) ≡ op.neg (as_bits xs)
unfolding op.neg
neg-formula xs =
    same_bits _ _ (length-sum_after true (inner_s.zeros (length xs)) (map not xs) (length (inner_s.zeros (length xs))) ∙ length-replicate (length xs) false) (number-neg xs)

pub mul-formula : (xs ys : List Bool) → as_bits (inner_s.mul xs ys) ≡ op.mul (as_bits xs) (as_bits ys)
unfolding op.mul
mul-formula xs ys = same_bits _ _ (length-product_after xs ys (length ys)) (number-mul xs ys)

pub sll-formula : (xs ys : List Bool) → as_bits (inner_s.sll xs ys) ≡ op.sll (as_bits xs) (as_bits ys)
unfolding op.sll
sll-formula xs ys = same_bits _ _ (length-up_after xs ys (length ys)) (number-sll xs ys)

pub srl-formula : (xs ys : List Bool) → as_bits (inner_s.srl xs ys) ≡ op.srl (as_bits xs) (as_bits ys)
unfolding op.srl
srl-formula xs ys = same_bits _ _ (length-down_after false xs ys (length ys)) (number-srl xs ys)

pub not-formula : (xs : List Bool) → as_bits (map not xs) ≡ op.not (as_bits xs)
unfolding op.not
not-formula xs = same_bits _ _ (length-map xs not) (omega (arith, number-not xs))

pub not_not : (xs : List Bool) → map not (map not xs) ≡ xs
not_not [] = refl
not_not (true ∷ xs) = ap (λ zs. true ∷ zs) (not_not xs)
not_not (false ∷ xs) = ap (λ zs. false ∷ zs) (not_not xs)

sra-by_sign : (b : Bool) (xs ys : List Bool) → HasSign b (as_bits xs) → as_bits (inner_s.down_after b xs ys (length ys)) ≡ op.sra (as_bits xs) (as_bits ys)
sra-by_sign false xs ys low = srl-formula xs ys ∙ sym (sra-low (as_bits xs) (as_bits ys) (number-lt xs) low)
sra-by_sign true xs ys high =
    ap as_bits (sym (not_not (inner_s.down_after true xs ys (length ys)))) ∙ not-formula (map not (inner_s.down_after true xs ys (length ys)))
    ∙ ap (λ zs. op.not (as_bits zs)) (not-down_after xs ys (length ys)) ∙ ap op.not (srl-formula (map not xs) ys) ∙ ap (λ a. op.not (op.srl a (as_bits ys))) (not-formula xs)
    ∙ sym (sra-high (as_bits xs) (as_bits ys) (number-lt xs) high)

pub sra-formula : (xs ys : List Bool) → 1 ≤ length xs → as_bits (inner_s.sra xs ys) ≡ op.sra (as_bits xs) (as_bits ys)
sra-formula xs ys some = sra-by_sign (s.sign xs) xs ys (HasSign-sign xs some)

-- ---- tests

flag-bit : (b : Bool) → as_bits (b ∷ []) ≡ op.flag b
unfolding op.flag
flag-bit true = refl
flag-bit false = refl

pub eq_bits-formula : (xs ys : List Bool) → length xs ≡ length ys → as_bits (inner_s.equal xs ys ∷ []) ≡ op.eq_bits (as_bits xs) (as_bits ys)
unfolding op.eq_bits
eq_bits-formula xs ys same = flag-bit (inner_s.equal xs ys) ∙ ap op.flag (equal-eqb xs ys same)

pub ult-formula : (xs ys : List Bool) → length xs ≡ length ys → as_bits (s.ult xs ys ∷ []) ≡ op.ult (as_bits xs) (as_bits ys)
unfolding op.ult
ult-formula xs ys same = flag-bit (s.ult xs ys) ∙ ap op.flag (ult-ltb xs ys same)

choice-cond : (x y u : Bool) → choice (xor x y) x u ≡ cond (beq x y) u x
choice-cond false false u = refl
choice-cond false true u = refl
choice-cond true false u = refl
choice-cond true true u = refl

slt-int : (xs ys : List Bool) → 1 ≤ length xs → length xs ≡ length ys → s.slt xs ys ≡ int_lt (op.signed (as_bits xs)) (op.signed (as_bits ys))
slt-int xs ys some same =
    choice-cond (s.sign xs) (s.sign ys) (s.ult xs ys) ∙ ap (λ u. cond (beq (s.sign xs) (s.sign ys)) u (s.sign xs)) (ult-ltb xs ys same)
    ∙ sym (int_lt-signed (s.sign xs) (s.sign ys) (as_bits xs) (as_bits ys) same (number-lt xs) (number-lt ys) (HasSign-sign xs some) (HasSign-sign ys (omega arith)))

pub slt-formula : (xs ys : List Bool) → 1 ≤ length xs → length xs ≡ length ys → as_bits (s.slt xs ys ∷ []) ≡ op.slt (as_bits xs) (as_bits ys)
unfolding op.slt
slt-formula xs ys some same = flag-bit (s.slt xs ys) ∙ ap op.flag (slt-int xs ys some same)

pub redand-formula : (xs : List Bool) → as_bits (all_ones xs ∷ []) ≡ op.redand (as_bits xs)
unfolding op.redand
redand-formula xs = flag-bit (all_ones xs) ∙ ap op.flag (all_ones-eqb xs)

pub redor-formula : (xs : List Bool) → as_bits (inner_s.some_one xs ∷ []) ≡ op.redor (as_bits xs)
unfolding op.redor
redor-formula xs = flag-bit (inner_s.some_one xs) ∙ ap op.flag (some_one-ltb xs)

pub redxor-formula : (xs : List Bool) → as_bits (odd_ones xs ∷ []) ≡ op.redxor (as_bits xs)
unfolding op.redxor
redxor-formula xs = same_bits _ _ refl (omega (arith, odd_ones-count xs))

-- ---- parts

pub concat-formula : (xs ys : List Bool) → as_bits (inner_s.concat xs ys) ≡ op.concat (as_bits xs) (as_bits ys)
unfolding op.concat
concat-formula xs ys = same_bits _ _ (omega (arith, length-append ys xs)) (omega (arith, number-append ys xs))

pub slice-formula : (xs : List Bool) (upper lower : ℕ) → lower ≤ upper → upper < length xs → as_bits (inner_s.slice xs upper lower) ≡ op.slice (as_bits xs) upper lower
unfolding op.slice
slice-formula xs upper lower order within =
    same_bits _ _ (length-take-le (upper - lower + 1) (drop lower xs) (omega (arith, length-drop lower xs)))
    (number-take (upper - lower + 1) (drop lower xs) ∙ ap (λ n. n % 2 ^ (upper - lower + 1)) (number-drop lower xs))

pub zext-formula : (xs : List Bool) (added : ℕ) → as_bits (inner_s.zext xs added) ≡ op.zext (as_bits xs) (length xs + added)
unfolding op.zext
zext-formula xs added =
    same_bits _ _ (omega (arith, length-append xs (inner_s.zeros added), length-replicate added false)) (number-append xs (inner_s.zeros added) ∙ ap (λ n. number xs + 2 ^ length xs * n) (number-zeros added) ∙ omega arith)

map_not-ones : (n : ℕ) → map not (replicate n true) ≡ replicate n false
map_not-ones zero = refl
map_not-ones (suc n) = ap (λ xs. false ∷ xs) (map_not-ones n)

sext-by_sign : (b : Bool) (xs : List Bool) (added : ℕ) → HasSign b (as_bits xs) → as_bits (xs ++ replicate added b) ≡ op.sext (as_bits xs) (length xs + added)
sext-by_sign false xs added low =
    zext-formula xs added ∙ sym (sext-low (as_bits xs) (length xs + added) (number-lt xs) (omega arith) low)
sext-by_sign true xs added high =
    let turned : map not (xs ++ replicate added true) ≡ inner_s.zext (map not xs) added = map-append not xs (replicate added true) ∙ ap (λ zs. map not xs ++ zs) (map_not-ones added) in
    ap as_bits (sym (not_not (xs ++ replicate added true))) ∙ not-formula (map not (xs ++ replicate added true)) ∙ ap (λ zs. op.not (as_bits zs)) turned
    ∙ ap op.not (zext-formula (map not xs) added) ∙ ap₂ (λ a w. op.not (op.zext a (w + added))) (not-formula xs) (length-map xs not)
    ∙ sym (sext-high (as_bits xs) (length xs + added) (number-lt xs) (omega arith) high)

pub sext-formula : (xs : List Bool) (added : ℕ) → 1 ≤ length xs → as_bits (inner_s.sext xs added) ≡ op.sext (as_bits xs) (length xs + added)
sext-formula xs added some = sext-by_sign (s.sign xs) xs added (HasSign-sign xs some)

-- ---- gates at each place

length-zip_with : (f : Bool → Bool → Bool) (xs ys : List Bool) → length xs ≡ length ys → length (zip_with f xs ys) ≡ length xs
length-zip_with f [] ys same = refl
length-zip_with f (x ∷ xs) [] same = absurd (omega arith)
length-zip_with f (x ∷ xs) (y ∷ ys) same = omega (arith, length-zip_with f xs ys (omega arith))

pub and-formula : (xs ys : List Bool) → length xs ≡ length ys → as_bits (zip_with (λ x y. x && y) xs ys) ≡ op.and (as_bits xs) (as_bits ys)
unfolding op.and
and-formula xs ys same = same_bits _ _ (length-zip_with _ xs ys same) (number-and xs ys same)

pub or-formula : (xs ys : List Bool) → length xs ≡ length ys → as_bits (zip_with (λ x y. x || y) xs ys) ≡ op.or (as_bits xs) (as_bits ys)
unfolding op.or
or-formula xs ys same = same_bits _ _ (length-zip_with _ xs ys same) (number-or xs ys same)

pub xor-formula : (xs ys : List Bool) → length xs ≡ length ys → as_bits (zip_with xor xs ys) ≡ op.xor (as_bits xs) (as_bits ys)
unfolding op.xor
xor-formula xs ys same = same_bits _ _ (length-zip_with _ xs ys same) (number-xor xs ys same)

not-ltb : (a b : ℕ) → not (ltb a b) ≡ leb b a
not-ltb a b = grind (arith, nat_tests)

pub ulte-formula : (xs ys : List Bool) → length xs ≡ length ys → as_bits (not (s.ult ys xs) ∷ []) ≡ op.ulte (as_bits xs) (as_bits ys)
unfolding op.ulte
ulte-formula xs ys same = flag-bit (not (s.ult ys xs)) ∙ ap op.flag (ap not (ult-ltb ys xs (sym same)) ∙ not-ltb (number ys) (number xs))

not-int_lt : (x y : ℤ) → not (int_lt y x) ≡ int_le x y
not-int_lt (pos a) (pos b) = not-ltb b a
not-int_lt (pos a) (negsuc b) = refl
not-int_lt (negsuc a) (pos b) = refl
not-int_lt (negsuc a) (negsuc b) = not-ltb a b

pub slte-formula : (xs ys : List Bool) → 1 ≤ length xs → length xs ≡ length ys → as_bits (not (s.slt ys xs) ∷ []) ≡ op.slte (as_bits xs) (as_bits ys)
unfolding op.slte
slte-formula xs ys some same =
    flag-bit (not (s.slt ys xs)) ∙ ap op.flag (ap not (slt-int ys xs (omega arith) (sym same)) ∙ not-int_lt (op.signed (as_bits xs)) (op.signed (as_bits ys)))

-- the first word where a condition holds, else the second
pub choose-formula : (c : Bool) (xs ys : List Bool) → as_bits (s.choose c xs ys) ≡ cond c (as_bits xs) (as_bits ys)
choose-formula true xs ys = refl
choose-formula false xs ys = refl

pub either-width : (c : Bool) (xs ys : List Bool) (w : ℕ) → length xs ≡ w → length ys ≡ w → length (s.choose c xs ys) ≡ w
either-width true xs ys w p q = p
either-width false xs ys w p q = q
