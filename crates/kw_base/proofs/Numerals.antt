-- The number that digits write, read from the left, and digits by the test of each byte.
use Rattle.std.proofs.Common.{◌≡◌, ℕ, ◌+◌, ◌*◌, ◌<◌, Bool, true, false, List, [], ◌∷◌, length, get_or, take, refl, sym, true≢false}
use Rattle.std.specs.Char.{digit_value, is_digit}
use Rattle.std.specs.List.{list_all}
use Rattle.std.specs.Prelude.{◌&&◌}
use Rattle.std.specs.Str.Parse.{AllDigits, digits_value}
use Rattle.std.proofs.lemmas.Bool.{lt-ltb, ltb-true}
use Rattle.std.proofs.lemmas.Int.Digits.{digits_value_more}

-- one more digit
pub digits_value_next : (radix : ℕ) (digits : List ℕ) (i number digit : ℕ) → number ≡ digits_value radix (take i digits) → i < length digits → digit ≡ digit_value (get_or digits i 0)
    → number * radix + digit ≡ digits_value radix (take (i + 1) digits)
digits_value_next radix digits i number digit so_far within is = rw (so_far, is) (sym (digits_value_more radix digits i within))

both : (a b : Bool) → (a && b) ≡ true → (a ≡ true) × (b ≡ true)
both true true h = (refl, refl)
both true false h = absurd (true≢false (sym h))
both false b h = absurd (true≢false (sym h))

-- bytes that pass the test are digits, and digits pass it
pub digits-from_tests : (radix : ℕ) (bytes : List ℕ) → list_all (λ b. is_digit b radix) bytes ≡ true → AllDigits radix bytes
digits-from_tests radix [] all = tt
digits-from_tests radix (b ∷ bytes) all =
    let parts = both (is_digit b radix) (list_all (λ d. is_digit d radix) bytes) all in
    (ltb-true (digit_value b) radix parts.0, digits-from_tests radix bytes parts.1)

pub tests-from_digits : (radix : ℕ) (bytes : List ℕ) → AllDigits radix bytes → list_all (λ b. is_digit b radix) bytes ≡ true
tests-from_digits radix [] all = refl
tests-from_digits radix (b ∷ bytes) all = rw (lt-ltb (digit_value b) radix all.0) (tests-from_digits radix bytes all.1)
