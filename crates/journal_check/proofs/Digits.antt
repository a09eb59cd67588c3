-- Decimal numbers and hexadecimal values are read back from their digits.
use Rattle.std.proofs.Common.{◌≡◌, ℕ, zero, suc, ◌+◌, ◌*◌, ◌/◌, ◌%◌, ◌^◌, ◌<◌, ◌≤◌, ◌==◌, Bool, true, false, List, [], ◌∷◌, refl, sym, ap, ap₂, ◌∙◌, arith}
use Rattle.std.specs.Prelude.{decimal, nat_lt, if◌then◌else◌}
use Rattle.std.proofs.lemmas.Bool.{ltb-true, ne_eqb}
use Rattle.std.specs.List.{fold}
use Rattle.std.proofs.Math.Nat.{div-div-eq-div-mul, div-eq_of_lt, div-le_self, mod-lt, mod-eq_of_lt, pow-suc}
use Rattle.std.proofs.Math.Pow.{pow_mono}
use Rattle.std.proofs.lemmas.Nat.{div-add-mod', pow-add}
use Rattle.std.proofs.lemmas.Fmt.{decimal_by_steps}
use Rattle.std.proofs.lemmas.List.Sums.{fold-append}
use Rattle.stim_report.specs.Report.{hex, hex_digit, hex_digits}
use Rattle.stim_report.proofs.Hex.{pow_sixteen}
use Rattle.journal_check.specs.Numbers.{hex_read, number_read, value_read, with_decimal, with_hex}

-- a digit is the low bits of its byte
digit_of : (d : ℕ) → d < 10 → (48 + d) % 16 ≡ d
digit_of d h = omega (arith, h)

-- a number with its last digit
next_digit : (n : ℕ) → n < 2 ^ 32 → with_decimal (n / 10) (48 + n % 10) ≡ n
next_digit n h =
    let low = digit_of (n % 10) (mod-lt n (omega arith)) in
    let whole = div-add-mod' n 10 in
    let front : n / 10 * 10 % 2 ^ 32 ≡ n / 10 * 10 = mod-eq_of_lt (omega (arith, whole, h)) in
    ap₂ (λ (a b : ℕ). (a + b) % 2 ^ 32) front low ∙ ap (λ (k : ℕ). k % 2 ^ 32) whole ∙ mod-eq_of_lt h

first_digit : (n : ℕ) → n < 10 → n < 2 ^ 32 → number_read ((48 + n) ∷ []) ≡ n
first_digit n h small =
    let alone : 0 * 10 % 2 ^ 32 + n ≡ n = omega arith in
    ap (λ (k : ℕ). (0 * 10 % 2 ^ 32 + k) % 2 ^ 32) (digit_of n h) ∙ ap (λ (k : ℕ). k % 2 ^ 32) alone ∙ mod-eq_of_lt small

pub number_read-decimal : (n : ℕ) → n < 2 ^ 32 → number_read (decimal n) ≡ n
number_read-decimal n small =
    decimal_by_steps (λ (m : ℕ) (ds : List ℕ). m < 2 ^ 32 → number_read ds ≡ m) first_digit
    (λ m ds many known below.
    fold-append with_decimal 0 ds ((48 + m % 10) ∷ [])
    ∙ ap (λ (k : ℕ). with_decimal k (48 + m % 10)) (known (omega (arith, below, div-add-mod' m 10)))
    ∙ next_digit m below)
    n (omega (arith, small)) small

-- ---- hexadecimal

hex_read-digit : (d : ℕ) → d < 16 → hex_read (hex_digit d) ≡ d
hex_read-digit zero h = refl
hex_read-digit (suc zero) h = refl
hex_read-digit (suc (suc zero)) h = refl
hex_read-digit (suc (suc (suc zero))) h = refl
hex_read-digit (suc (suc (suc (suc zero)))) h = refl
hex_read-digit (suc (suc (suc (suc (suc zero))))) h = refl
hex_read-digit (suc (suc (suc (suc (suc (suc zero)))))) h = refl
hex_read-digit (suc (suc (suc (suc (suc (suc (suc zero))))))) h = refl
hex_read-digit (suc (suc (suc (suc (suc (suc (suc (suc zero)))))))) h = refl
hex_read-digit (suc (suc (suc (suc (suc (suc (suc (suc (suc zero))))))))) h = refl
hex_read-digit (suc (suc (suc (suc (suc (suc (suc (suc (suc (suc zero)))))))))) h = refl
hex_read-digit (suc (suc (suc (suc (suc (suc (suc (suc (suc (suc (suc zero))))))))))) h = refl
hex_read-digit (suc (suc (suc (suc (suc (suc (suc (suc (suc (suc (suc (suc zero)))))))))))) h = refl
hex_read-digit (suc (suc (suc (suc (suc (suc (suc (suc (suc (suc (suc (suc (suc zero))))))))))))) h = refl
hex_read-digit (suc (suc (suc (suc (suc (suc (suc (suc (suc (suc (suc (suc (suc (suc zero)))))))))))))) h = refl
hex_read-digit (suc (suc (suc (suc (suc (suc (suc (suc (suc (suc (suc (suc (suc (suc (suc zero))))))))))))))) h = refl
hex_read-digit (suc (suc (suc (suc (suc (suc (suc (suc (suc (suc (suc (suc (suc (suc (suc (suc n)))))))))))))))) h = absurd (omega (arith, h))

-- one more digit, where there is room
with_hex-digit : (v d : ℕ) → d < 16 → v * 16 + d < 2 ^ 128 → with_hex v (hex_digit d) ≡ v * 16 + d
with_hex-digit v d h room =
    let front : v * 16 % 2 ^ 128 ≡ v * 16 = mod-eq_of_lt (omega (arith, room)) in
    ap₂ (λ (a b : ℕ). (a + b) % 2 ^ 128) front (hex_read-digit d h) ∙ mod-eq_of_lt room

-- the digits that are left bring the number back
from_digits : (count n : ℕ) → n < 2 ^ 128 → fold with_hex (n / 16 ^ count) (hex_digits count n) ≡ n
from_digits zero n small = omega arith
from_digits (suc count) n small =
    let q = n / 16 ^ count in
    let power : 16 ^ suc count ≡ 16 ^ count * 16 = omega (arith, pow-suc 16 count) in
    let top : n / 16 ^ suc count ≡ q / 16 = ap (λ (k : ℕ). n / k) power ∙ sym (div-div-eq-div-mul n (16 ^ count) 16) in
    let whole = div-add-mod' q 16 in
    let next : with_hex (n / 16 ^ suc count) (hex_digit (q % 16)) ≡ q =
    ap (λ (v : ℕ). with_hex v (hex_digit (q % 16))) top ∙ with_hex-digit (q / 16) (q % 16) (mod-lt q (omega arith)) (omega (arith, whole, div-le_self n (16 ^ count), small)) ∙ whole in
    ap (λ (v : ℕ). fold with_hex v (hex_digits count n)) next ∙ from_digits count n small

pub value_read-hex : (width n : ℕ) → n < 2 ^ width → width ≤ 128 → value_read (hex width n) ≡ n
value_read-hex width n small narrow =
    let count = (width + 3) / 4 in
    let enough : width ≤ 4 * count = omega arith in
    let below : n < 16 ^ count = omega (arith, small, pow_mono enough, pow_sixteen count) in
    ap (λ (v : ℕ). fold with_hex v (hex_digits count n)) (sym (div-eq_of_lt below)) ∙ from_digits count n (omega (arith, small, pow_mono narrow))

-- no digit is a byte that isn't one
pub digit_not : (c d : ℕ) → (d < 10 → 48 + d ≡ c → ⊥) → (87 + d ≡ c → ⊥) → (hex_digit d == c) ≡ false
digit_not c d low high = choose (nat_lt d 10) (ltb-true d 10)
  where
    choose : (b : Bool) → (b ≡ true → d < 10) → ((if b then 48 + d else 87 + d) == c) ≡ false
    choose true h = ne_eqb (48 + d) c (low (h refl))
    choose false h = ne_eqb (87 + d) c high
