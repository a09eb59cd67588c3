-- Bit vectors one below the other.
use Rattle.std.proofs.Common.{◌≡◌, ℕ, ◌+◌, ◌-◌, ◌*◌, ◌/◌, ◌%◌, ◌^◌, ◌<◌, ◌≤◌, List, [], ◌∷◌, ◌++◌, sum_by, refl, ap, ap₂, sym, subst, ◌∙◌, arith, add_assoc}
use Rattle.std.proofs.Math.Nat.{add-mul, div-add-mod, mul_assoc, mul_comm}
use Rattle.std.proofs.lemmas.Nat.{mod-pow-add, mod_low, mul-add-lt, pow-add, shr_high, shr-shr}
use Rattle.std.proofs.lemmas.List.Sums.{sum_by-cons}
use Rattle.kw_bits.specs.BitVector.{BitVector}
use Rattle.kw_bits.specs.Operators.{concat, slice}
use Rattle.koika_types.specs.Values.{nothing, stacked, stacked_up}

-- equal widths and equal numbers make equal bit vectors
pub same_bits : (a b : BitVector) → a.width ≡ b.width → a.number ≡ b.number → a ≡ b
same_bits a b e f = ap₂ (λ w n. record { width = w; number = n }) e f

pub concat-nothing : (a : BitVector) → concat a nothing ≡ a
unfolding concat
concat-nothing a = same_bits _ _ (omega arith) (omega arith)

pub nothing-concat : (a : BitVector) → concat nothing a ≡ a
unfolding concat
nothing-concat a = same_bits _ _ (omega arith) (omega arith)

three_parts : (a b c m n : ℕ) → (a * m + b) * n + c ≡ a * (m * n) + (b * n + c)
three_parts a b c m n = ap (λ k. k + c) (add-mul (a * m) b n ∙ ap (λ k. k + b * n) (mul_assoc a m n)) ∙ add_assoc (a * (m * n)) (b * n) c

pub concat_assoc : (a b c : BitVector) → concat (concat a b) c ≡ concat a (concat b c)
unfolding concat
concat_assoc a b c = same_bits _ _ (add_assoc a.width b.width c.width)
    (three_parts a.number b.number c.number (2 ^ b.width) (2 ^ c.width) ∙ ap (λ m. a.number * m + (b.number * 2 ^ c.width + c.number)) (sym (pow-add 2 b.width c.width)))

-- of one more at the end, where the first is the least significant
pub stacked_up-push : (xs : List BitVector) (x : BitVector) → stacked_up (xs ++ x ∷ []) ≡ concat x (stacked_up xs)
stacked_up-push [] x = nothing-concat x ∙ sym (concat-nothing x)
stacked_up-push (y ∷ ys) x = ap (λ above. concat above y) (stacked_up-push ys x) ∙ concat_assoc x (stacked_up ys) y

-- one more at the end
pub stacked-push : (xs : List BitVector) (x : BitVector) → stacked (xs ++ x ∷ []) ≡ concat (stacked xs) x
stacked-push [] x = concat-nothing x ∙ sym (nothing-concat x)
stacked-push (y ∷ ys) x = ap (concat y) (stacked-push ys x) ∙ sym (concat_assoc y (stacked ys) x)

abbrev pub wide : BitVector → ℕ
wide b = b.width

pub stacked-width : (xs : List BitVector) → (stacked xs).width ≡ sum_by wide xs
unfolding concat
stacked-width [] = refl
stacked-width (x ∷ xs) = ap (λ w. x.width + w) (stacked-width xs) ∙ sym (sum_by-cons wide x xs)

pub stacked_up-width : (xs : List BitVector) → (stacked_up xs).width ≡ sum_by wide xs
unfolding concat
stacked_up-width [] = refl
stacked_up-width (x ∷ xs) =
    let rest : (stacked_up xs).width ≡ sum_by wide xs = stacked_up-width xs in
    omega (arith, rest, sum_by-cons wide x xs)

-- the number is below 2 to the width
abbrev pub IsSized : BitVector → Type 0
IsSized b = b.number < 2 ^ b.width

pub concat-IsSized : (a b : BitVector) → IsSized a → IsSized b → IsSized (concat a b)
unfolding concat
concat-IsSized a b p q =
    let whole : 2 ^ b.width * 2 ^ a.width ≡ 2 ^ (a.width + b.width) = mul_comm (2 ^ b.width) (2 ^ a.width) ∙ sym (pow-add 2 a.width b.width) in
    subst (λ m. a.number * 2 ^ b.width + b.number < m) whole (mul-add-lt a.number (2 ^ b.width) b.number (2 ^ a.width) p q)

-- a joined vector has the parts that it was made of
pub concat-parts : (a b a' b' : BitVector) → b.width ≡ b'.width → IsSized b → IsSized b' → concat a b ≡ concat a' b' → (a ≡ a') × (b ≡ b')
unfolding concat
concat-parts a b a' b' same p q e =
    let numbers : a.number * 2 ^ b.width + b.number ≡ a'.number * 2 ^ b.width + b'.number =
    ap (λ (c : BitVector). c.number) e ∙ ap (λ w. a'.number * 2 ^ w + b'.number) (sym same) in
    let widths : a.width + b.width ≡ a'.width + b'.width = ap (λ (c : BitVector). c.width) e in
    let q' : b'.number < 2 ^ b.width = subst (λ w. b'.number < 2 ^ w) (sym same) q in
    let high : a.number ≡ a'.number = sym (shr_high a.number b.width b.number p) ∙ ap (λ n. n / 2 ^ b.width) numbers ∙ shr_high a'.number b.width b'.number q' in
    let low : b.number ≡ b'.number = sym (mod_low a.number b.width b.number p) ∙ ap (λ n. n % 2 ^ b.width) numbers ∙ mod_low a'.number b.width b'.number q' in
    (same_bits a a' (omega arith) high, same_bits b b' same low)

-- the part from `above` down by w bits, below what is above
pub next_down : (n w above : ℕ) → w ≤ above → n / 2 ^ above * 2 ^ w + n / 2 ^ (above - w) % 2 ^ w ≡ n / 2 ^ (above - w)
next_down n w above within =
    let place : above - w + w ≡ above = omega arith in
    let m : ℕ = n / 2 ^ (above - w) in
    let high : n / 2 ^ above ≡ m / 2 ^ w = ap (λ k. n / 2 ^ k) (sym place) ∙ sym (shr-shr n (above - w) w) in
    ap (λ k. k * 2 ^ w + m % 2 ^ w) high ∙ ap (λ k. k + m % 2 ^ w) (mul_comm (m / 2 ^ w) (2 ^ w)) ∙ div-add-mod m (2 ^ w)

pub next_up : (n w below : ℕ) → n / 2 ^ below % 2 ^ w * 2 ^ below + n % 2 ^ below ≡ n % 2 ^ (w + below)
next_up n w below = sym (mod-pow-add n w below)

pub slice-width : (b : BitVector) (upper lower : ℕ) → (slice b upper lower).width ≡ upper - lower + 1
unfolding slice
slice-width b upper lower = refl
