-- The bit vector of a width and a number, where there is one.
use Rattle.std.proofs.Common.{◌≡◌, ℕ, ◌<◌, ◌≤◌, ◌^◌, Bool, true, false, Option, Some, None, refl, sym, ap, ◌∙◌, arith, true≢false}
use Rattle.std.specs.Prelude.{nat_lt, if◌then◌else◌, IsSome, IfSome, ◌↔◌}
use Rattle.std.proofs.Math.Pow.{pow_mono}
use Rattle.std.proofs.lemmas.Bool.{lt-ltb, ltb-true, le-ltb}
use Rattle.kw_bits.specs.BitVector.{BitVector, IsBitVector}
use Rattle.typed_core.specs.Valid.{IsWidth}

abbrev chosen : ℕ → ℕ → Option BitVector
chosen width number = if nat_lt number (2 ^ width) then Some (record { width = width; number = number }) else None

-- none is as great as 2^128
pub bits_none : (width number : ℕ) → IsWidth width → ¬ (number < 2 ^ 128) → chosen width number ≡ None
bits_none width number is great =
    let most : 2 ^ width ≤ 2 ^ 128 = pow_mono is.1 in
    let test : nat_lt number (2 ^ width) ≡ false = le-ltb number (2 ^ width) (at_least number (2 ^ width) (λ below. great (omega (arith, below, most)))) in
    ap (λ (b : Bool). if b then Some (record { width = width; number = number }) else None) test
  where
    at_least : (m n : ℕ) → ¬ (m < n) → n ≤ m
    at_least m n h = omega (arith, h)

no_bits : (width number : ℕ) (b : Bool) → nat_lt number (2 ^ width) ≡ b → ¬ (number < 2 ^ width) → b ≡ false
no_bits width number true is h = absurd (h (ltb-true number (2 ^ width) is))
no_bits width number false is h = refl

-- what a call answers that makes one
pub bits_new : (r : Option BitVector) (width number : ℕ) → IsWidth width → IsSome r ↔ IsBitVector width number → IfSome r (λ b. b.width ≡ width) → IfSome r (λ b. b.number ≡ number) → r ≡ chosen width number
bits_new None width number is some w n =
    let none : ¬ (number < 2 ^ width) = λ below. true≢false (sym (some.1 (record { some_bit = is.0; no_wider = is.1; in_range = below }))) in
    sym (ap (λ (b : Bool). if b then Some (record { width = width; number = number }) else None) (no_bits width number (nat_lt number (2 ^ width)) refl none))
bits_new (Some bits) width number is some w n =
    let below : number < 2 ^ width = (some.0 refl).in_range in
    ap (λ (x : ℕ). Some (record { width = x; number = bits.number })) w ∙ ap (λ (x : ℕ). Some (record { width = width; number = x })) n
    ∙ sym (ap (λ (b : Bool). if b then Some (record { width = width; number = number }) else None) (lt-ltb number (2 ^ width) below))
