-- Binary digits without leading zeros.
use Rattle.std.proofs.Common.{◌≡◌, ◌⊎◌, ℕ, zero, suc, ◌+◌, ◌-◌, ◌*◌, ◌/◌, ◌%◌, ◌^◌, ◌<◌, ◌≤◌, List, [], ◌∷◌, ◌++◌, refl, sym, ap, subst, ◌∙◌, inl, inr, zero-add, arith}
use Rattle.std.proofs.Math.Nat.{pow-suc, pow-le-pow_right}
use Rattle.std.proofs.lemmas.Nat.{div_below, le-div, leading_length, pow_pos}
use Rattle.wave_text.specs.Waves.{binary, binary_digits, without_leading_zeros}
use lib.Count.{count_leading_zeros}

-- the digit at a place above all that is 1
no_digit : (place number : ℕ) → number < 2 ^ place → number / 2 ^ place ≡ 0
no_digit place number small = let below : number / 2 ^ place < 1 = div_below number (2 ^ place) 1 (pow_pos place) (omega (arith, small)) in omega (arith, below)

-- and at the highest such place
top_digit : (place number : ℕ) → 2 ^ place ≤ number → number < 2 ^ suc place → number / 2 ^ place ≡ 1
top_digit place number most small =
    let below : number / 2 ^ place < 2 = div_below number (2 ^ place) 2 (pow_pos place) (omega (arith, small, pow-suc 2 place)) in
    let above : 1 ≤ number / 2 ^ place = le-div 1 number (2 ^ place) (pow_pos place) (omega (arith, most)) in
    omega (arith, below, above)

zero_leads : (d n : ℕ) (ds : List ℕ) → d ≡ 48 → without_leading_zeros (d ∷ n ∷ ds) ≡ without_leading_zeros (n ∷ ds)
zero_leads d n ds is = subst (λ (v : ℕ). without_leading_zeros (v ∷ n ∷ ds) ≡ without_leading_zeros (n ∷ ds)) (sym is) refl

one_leads : (d n : ℕ) (ds : List ℕ) → d ≡ 49 → without_leading_zeros (d ∷ n ∷ ds) ≡ d ∷ n ∷ ds
one_leads d n ds is = subst (λ (v : ℕ). without_leading_zeros (v ∷ n ∷ ds) ≡ v ∷ n ∷ ds) (sym is) refl

-- zeros that lead are left out
left_out : (more count number : ℕ) → number < 2 ^ suc count → without_leading_zeros (binary_digits (suc (more + count)) number) ≡ without_leading_zeros (binary_digits (suc count) number)
left_out zero count number small = ap (λ n. without_leading_zeros (binary_digits (suc n) number)) (zero-add count)
left_out (suc more) count number small =
    let e : suc more + count ≡ suc (more + count) = omega arith in
    let high : 2 ^ suc count ≤ 2 ^ suc (more + count) = pow-le-pow_right {n = 2} (omega arith) {i = suc count} {j = suc (more + count)} (omega arith) in
    ap (λ n. without_leading_zeros (binary_digits (suc n) number)) e
    ∙ zero_leads (48 + number / 2 ^ suc (more + count) % 2) (48 + number / 2 ^ (more + count) % 2) (binary_digits (more + count) number)
    (ap (λ n. 48 + n % 2) (no_digit (suc (more + count)) number (omega (arith, small, high))))
    ∙ left_out more count number small

-- no others are
all_stay : (count number : ℕ) → (count ≡ 0) ⊎ (2 ^ count ≤ number) → number < 2 ^ suc count → without_leading_zeros (binary_digits (suc count) number) ≡ binary_digits (suc count) number
all_stay zero number some small = refl
all_stay (suc count) number (inl none) small = absurd (omega (arith, none))
all_stay (suc count) number (inr some) small =
    one_leads (48 + number / 2 ^ suc count % 2) (48 + number / 2 ^ count % 2) (binary_digits count number) (ap (λ n. 48 + n % 2) (top_digit (suc count) number some small))

-- so this is how many digits are left
digits_left : (count number : ℕ) → suc count ≤ 128 → (count ≡ 0) ⊎ (2 ^ count ≤ number) → number < 2 ^ suc count → binary number ≡ binary_digits (suc count) number
unfolding binary
digits_left count number few some small =
    let all : 128 ≡ suc (127 - count + count) = omega (arith, few) in
    ap (λ n. without_leading_zeros (binary_digits n number)) all ∙ left_out (127 - count) count number small ∙ all_stay count number some small

by_length : (number lead count m : ℕ) → lead + m ≡ 128 → number < 2 ^ m → 2 ^ m ≤ 2 * number + 1 → (1 ≤ m → count ≡ m) → (m ≡ 0 → count ≡ 1) → binary number ≡ binary_digits count number
by_length number lead count zero all small some is one =
    let single : count ≡ 1 = one refl in
    digits_left 0 number (omega arith) (inl refl) (omega (arith, small)) ∙ ap (λ n. binary_digits n number) (sym single)
by_length number lead count (suc m) all small some is one =
    let same : count ≡ suc m = is (omega arith) in
    digits_left m number (omega (arith, all)) (inr (omega (arith, some, pow-suc 2 m))) small ∙ ap (λ n. binary_digits n number) (sym same)

-- the digits that are left where this many zeros lead
pub digits_counted : (number count : ℕ) → number < 2 ^ 128 → (1 ≤ 128 - count_leading_zeros 128 number → count ≡ 128 - count_leading_zeros 128 number) → (128 - count_leading_zeros 128 number ≡ 0 → count ≡ 1)
    → binary number ≡ binary_digits count number
digits_counted number count small is one =
    let l = leading_length 128 number small in
    by_length number (count_leading_zeros 128 number) count l.0 l.1 l.2 l.3 (λ some. is (omega (arith, l.1, some)) ∙ omega (arith, l.1)) (λ none. one (omega (arith, l.1, none)))

-- the digit below a place, and those that are left
pub digit_left : (place number digit : ℕ) → 0 < place → digit ≡ 48 + number / 2 ^ (place - 1) % 2 → binary_digits place number ≡ (digit ∷ []) ++ binary_digits (place - 1) number
digit_left zero number digit h is = absurd (omega (arith, h))
digit_left (suc place) number digit h is =
    let e : suc place - 1 ≡ place = omega arith in
    subst (λ (n : ℕ). digit ≡ 48 + number / 2 ^ n % 2 → binary_digits (suc place) number ≡ (digit ∷ []) ++ binary_digits n number) (sym e)
    (λ same. ap (λ d. d ∷ binary_digits place number) (sym same)) is
