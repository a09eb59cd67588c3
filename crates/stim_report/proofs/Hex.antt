-- Hexadecimal digits by shifts.
use Rattle.std.proofs.Common.{◌≡◌, ℕ, zero, suc, ◌+◌, ◌-◌, ◌*◌, ◌/◌, ◌%◌, ◌^◌, ◌<◌, ◌≤◌, List, [], ◌∷◌, ◌++◌, length, get_or, refl, ap, ap₂, ◌∙◌, sym, subst, arith}
use Rattle.std.specs.Prelude.{codes}
use Rattle.std.proofs.Math.Nat.{div-div-eq-div-mul, mod-lt, pow-suc}
use Rattle.std.proofs.Math.Pow.{mod-mod-pow}
use Rattle.std.proofs.lemmas.Nat.{div-mul-add, mod-pow-add, pow-add, pow_pos}
use Rattle.kw_bits.specs.Reserved.{ReservedList}
use Rattle.stim_report.specs.inner.Pages.{HasRoom, Gains, Leaves}
use Rattle.stim_report.specs.Report.{hex_digit, hex_digits}
use Rattle.stim_report.proofs.Pages.{room_byte, room_left, goes_on}

pub pow_sixteen : (place : ℕ) → 2 ^ (4 * place) ≡ 16 ^ place
pow_sixteen zero = refl
pow_sixteen (suc place) =
    let e : 4 * suc place ≡ 4 + 4 * place = omega arith in
    ap (λ n. 2 ^ n) e ∙ pow-add 2 4 (4 * place) ∙ ap (λ n. 16 * n) (pow_sixteen place) ∙ sym (omega (arith, pow-suc 16 place))

-- a shift by four bits a place
pub shifted_by_places : (number place : ℕ) → number / 2 ^ (4 * place) ≡ number / 16 ^ place
shifted_by_places number place = ap (λ n. number / n) (pow_sixteen place)

-- the digits from a place down begin with the one at the place below it
pub hex_digits_step : (place number : ℕ) → 0 < place → hex_digits place number ≡ hex_digit (number / 16 ^ (place - 1) % 16) ∷ hex_digits (place - 1) number
hex_digits_step zero number h = absurd (omega arith)
hex_digits_step (suc place) number h =
    let e : suc place - 1 ≡ place = omega arith in
    subst (λ (n : ℕ). hex_digits (suc place) number ≡ hex_digit (number / 16 ^ n % 16) ∷ hex_digits n number) (sym e) refl

-- the digit at the place below, and those that are left behind it
digit_below : (place number digit : ℕ) → 0 < place → digit ≡ hex_digit (number / 16 ^ (place - 1) % 16) → hex_digits place number ≡ digit ∷ hex_digits (place - 1) number
digit_below place number digit h is = hex_digits_step place number h ∙ ap (λ d. d ∷ hex_digits (place - 1) number) (sym is)

left_below : {old now : ReservedList ℕ} {whole : List ℕ} (place number digit : ℕ) → 0 < place → digit ≡ hex_digit (number / 16 ^ (place - 1) % 16)
    → Leaves old whole now (hex_digits place number) → Leaves old whole now (digit ∷ hex_digits (place - 1) number)
left_below {old} {now} {whole} place number digit h is left = subst (λ (rest : List ℕ). Leaves old whole now rest) (digit_below place number digit h is) left

pub room_for_digit : {old now : ReservedList ℕ} {whole : List ℕ} (place number digit : ℕ) → 0 < place → digit ≡ hex_digit (number / 16 ^ (place - 1) % 16)
    → HasRoom old whole → Leaves old whole now (hex_digits place number) → HasRoom now (digit ∷ [])
room_for_digit place number digit h is room left = room_byte _ (room_left room (left_below place number digit h is left))

pub digit_written : {old now next : ReservedList ℕ} {whole : List ℕ} (place number digit : ℕ) → 0 < place → digit ≡ hex_digit (number / 16 ^ (place - 1) % 16)
    → Leaves old whole now (hex_digits place number) → Gains now next (digit ∷ []) → Leaves old whole next (hex_digits (place - 1) number)
digit_written place number digit h is left gains = goes_on {xs = digit ∷ []} (left_below place number digit h is left) gains

-- there are so many of them
pub length_hex_digits : (count number : ℕ) → length (hex_digits count number) ≡ count
length_hex_digits zero number = refl
length_hex_digits (suc count) number = omega (arith, length_hex_digits count number)

-- a digit of a number's lowest 64 bits
low_digit : (number place : ℕ) → place < 16 → number % 2 ^ 64 / 16 ^ place % 16 ≡ number / 16 ^ place % 16
low_digit number place below =
    let k = 4 * place in
    let j = 64 - k in
    let all : 64 ≡ j + k = omega (arith, below) in
    let some : j ≡ j - 4 + 4 = omega (arith, below) in
    let parts : number % 2 ^ 64 ≡ (number / 2 ^ k % 2 ^ j) * 2 ^ k + number % 2 ^ k = ap (λ n. number % 2 ^ n) all ∙ mod-pow-add number j k in
    let shifted : number % 2 ^ 64 / 2 ^ k ≡ number / 2 ^ k % 2 ^ j =
    ap (λ n. n / 2 ^ k) parts ∙ div-mul-add (number / 2 ^ k % 2 ^ j) (2 ^ k) (number % 2 ^ k) (mod-lt number (pow_pos k)) in
    sym (ap (λ n. n % 16) (shifted_by_places (number % 2 ^ 64) place)) ∙ ap (λ n. n % 16) shifted
    ∙ ap (λ n. number / 2 ^ k % 2 ^ n % 2 ^ 4) some ∙ mod-mod-pow (number / 2 ^ k) (j - 4) 4 ∙ ap (λ n. n % 16) (shifted_by_places number place)

-- the lowest digits, 16 at most, are those of the lowest 64 bits
pub low_digits : (count number : ℕ) → count ≤ 16 → hex_digits count (number % 2 ^ 64) ≡ hex_digits count number
low_digits zero number few = refl
low_digits (suc count) number few = ap₂ (λ (n : ℕ) (ds : List ℕ). hex_digit n ∷ ds) (low_digit number count (omega (arith, few))) (low_digits count number (omega (arith, few)))

-- the digits before the lowest 16 are those of the bits before the lowest 64
pub high_digits : (count number : ℕ) → hex_digits (count + 16) number ≡ hex_digits count (number / 2 ^ 64) ++ hex_digits 16 number
high_digits zero number = refl
high_digits (suc count) number =
    let next : suc count + 16 ≡ suc (count + 16) = omega arith in
    let power : 16 ^ (count + 16) ≡ 2 ^ 64 * 16 ^ count = pow-add 16 count 16 ∙ omega arith in
    ap (λ n. hex_digits n number) next ∙ ap₂ (λ (n : ℕ) (ds : List ℕ). hex_digit (n % 16) ∷ ds) (ap (λ n. number / n) power ∙ sym (div-div-eq-div-mul number (2 ^ 64) (16 ^ count))) (high_digits count number)

-- more than 16 digits are written in two parts
pub split_digits : (count number : ℕ) → 16 < count → hex_digits count number ≡ hex_digits (count - 16) (number / 2 ^ 64) ++ hex_digits 16 (number % 2 ^ 64)
split_digits count number more =
    let all : count ≡ count - 16 + 16 = omega (arith, more) in
    ap (λ n. hex_digits n number) all ∙ high_digits (count - 16) number ∙ ap (λ ds. hex_digits (count - 16) (number / 2 ^ 64) ++ ds) (sym (low_digits 16 number (omega arith)))

-- the table of digits
pub in_table : (n : ℕ) → n < 16 → get_or (codes "0123456789abcdef") n 0 ≡ hex_digit n
in_table zero h = refl
in_table (suc zero) h = refl
in_table (suc (suc zero)) h = refl
in_table (suc (suc (suc zero))) h = refl
in_table (suc (suc (suc (suc zero)))) h = refl
in_table (suc (suc (suc (suc (suc zero))))) h = refl
in_table (suc (suc (suc (suc (suc (suc zero)))))) h = refl
in_table (suc (suc (suc (suc (suc (suc (suc zero))))))) h = refl
in_table (suc (suc (suc (suc (suc (suc (suc (suc zero)))))))) h = refl
in_table (suc (suc (suc (suc (suc (suc (suc (suc (suc zero))))))))) h = refl
in_table (suc (suc (suc (suc (suc (suc (suc (suc (suc (suc zero)))))))))) h = refl
in_table (suc (suc (suc (suc (suc (suc (suc (suc (suc (suc (suc zero))))))))))) h = refl
in_table (suc (suc (suc (suc (suc (suc (suc (suc (suc (suc (suc (suc zero)))))))))))) h = refl
in_table (suc (suc (suc (suc (suc (suc (suc (suc (suc (suc (suc (suc (suc zero))))))))))))) h = refl
in_table (suc (suc (suc (suc (suc (suc (suc (suc (suc (suc (suc (suc (suc (suc zero)))))))))))))) h = refl
in_table (suc (suc (suc (suc (suc (suc (suc (suc (suc (suc (suc (suc (suc (suc (suc zero))))))))))))))) h = refl
in_table (suc (suc (suc (suc (suc (suc (suc (suc (suc (suc (suc (suc (suc (suc (suc (suc n)))))))))))))))) h = absurd (omega (arith, h))
