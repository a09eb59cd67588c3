-- The number that a word writes, by the test of its digits and its value.
use Rattle.std.proofs.Common.{◌≡◌, ℕ, refl, true≢false, ◌^◌, ◌<◌, Bool, true, false, List, Option, Some, None, ap, sym, ◌∙◌}
use Rattle.std.specs.Option.{SomeIff}
use Rattle.std.specs.Prelude.{nat_lt, if◌then◌else◌, ◌&&◌}
use Rattle.std.specs.Str.Parse.{digits_value}
use Rattle.std.proofs.lemmas.Bool.{lt-ltb, ltb-true}
use Rattle.kw_base.specs.Texts.{is_numeral}
use Rattle.aiger_text.specs.Cuts.{decimal_number}

-- what is no numeral writes no number
pub number_none : (word : List ℕ) → is_numeral 10 word ≡ false → decimal_number word ≡ None
unfolding decimal_number
number_none word is = ap (λ b. if b && nat_lt (digits_value 10 word) (2 ^ 63) then Some (digits_value 10 word) else None) is

-- a numeral writes its value, where that is below 2 to the 63
pub number_is : (word : List ℕ) (read : Option ℕ) → is_numeral 10 word ≡ true → SomeIff read (digits_value 10 word < 2 ^ 63) (digits_value 10 word) → read ≡ decimal_number word
unfolding decimal_number
number_is word read is reads = by read (digits_value 10 word) reads (nat_lt (digits_value 10 word) (2 ^ 63)) refl ∙ sym (ap (λ b. if b && nat_lt (digits_value 10 word) (2 ^ 63) then Some (digits_value 10 word) else None) is)
  where
    by : (read : Option ℕ) (v : ℕ) → SomeIff read (v < 2 ^ 63) v → (t : Bool) → nat_lt v (2 ^ 63) ≡ t → read ≡ (if true && nat_lt v (2 ^ 63) then Some v else None)
    by (Some x) v reads true below = ap Some reads.1 ∙ sym (ap (λ b. if b then Some v else None) below)
    by (Some x) v reads false above = absurd (true≢false (sym (lt-ltb v (2 ^ 63) reads.0) ∙ above))
    by None v reads true below = absurd (reads (ltb-true v (2 ^ 63) below))
    by None v reads false above = sym (ap (λ b. if b then Some v else None) above)
