-- Values by their base: with `0x` before hexadecimal digits, or of decimal ones.
use Rattle.std.proofs.Common.{◌≡◌, ℕ, ◌≤◌, true, true≢false, List, [], ◌∷◌, length, drop, Some, None, ap, sym, arith}
use Rattle.std.specs.Prelude.{if◌then◌else◌, Bool, false}
use Rattle.std.specs.Str.Parse.{digits_value}
use Rattle.kw_base.specs.Texts.{is_numeral}
use Rattle.stim_report.specs.Assignments.{is_hexadecimal, numeral, value_written}

-- whether digits write a number, by the test
pub numeral_some : (radix : ℕ) (digits : List ℕ) → is_numeral radix digits ≡ true → numeral radix digits ≡ Some (digits_value radix digits)
numeral_some radix digits is = ap (λ (b : Bool). if b then Some (digits_value radix digits) else None) is

pub numeral_none : (radix : ℕ) (digits : List ℕ) → is_numeral radix digits ≡ false → numeral radix digits ≡ None
numeral_none radix digits is = ap (λ (b : Bool). if b then Some (digits_value radix digits) else None) is

pub value_written-hexadecimal : (value : List ℕ) → is_hexadecimal value ≡ true → value_written value ≡ numeral 16 (drop 2 value)
unfolding value_written
value_written-hexadecimal value is = ap (λ (b : Bool). if b then numeral 16 (drop 2 value) else numeral 10 value) is

pub value_written-decimal : (value : List ℕ) → is_hexadecimal value ≡ false → value_written value ≡ numeral 10 value
unfolding value_written
value_written-decimal value is = ap (λ (b : Bool). if b then numeral 16 (drop 2 value) else numeral 10 value) is

pub hexadecimal-length : (value : List ℕ) → is_hexadecimal value ≡ true → 2 ≤ length value
hexadecimal-length [] is = absurd (true≢false (sym is))
hexadecimal-length (a ∷ []) is = absurd (true≢false (sym is))
hexadecimal-length (a ∷ b ∷ value) is = omega arith
