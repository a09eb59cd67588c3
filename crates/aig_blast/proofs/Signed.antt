-- The sign of a word.
use Rattle.std.proofs.Common.{◌≡◌, ℕ, suc, ◌+◌, ◌-◌, ◌*◌, ◌^◌, ◌<◌, ◌≤◌, Bool, true, false, List, length, take, refl, sym, ap, ◌∙◌, arith}
use Rattle.std.proofs.lemmas.List.{take_all}
use Rattle.kw_bits.proofs.Signs.{HasSign}
use Rattle.aig_blast.specs.BitLists.{bit, number, as_bits}
use Rattle.aig_blast.specs.Steps.{sign}
use Rattle.aig_blast.proofs.Numbers.{number-take-suc, number-take-lt}

has_sign : (b : Bool) (w n t : ℕ) (xs : List Bool) → length xs ≡ w → number xs ≡ n → t < 2 ^ (w - 1) → n ≡ t + 2 ^ (w - 1) * bit b → HasSign b (as_bits xs)
has_sign true w n t xs wide is h e = rw (wide, is) (omega arith)
has_sign false w n t xs wide is h e = rw (wide, is) (omega arith)

pub HasSign-sign : (xs : List Bool) → 1 ≤ length xs → HasSign (sign xs) (as_bits xs)
HasSign-sign xs some =
    let k : ℕ = length xs - 1 in
    let all : suc k ≡ length xs = omega arith in
    let top : number xs ≡ number (take k xs) + 2 ^ k * bit (sign xs) = sym (ap number (ap (λ n. take n xs) all ∙ take_all (length xs) xs (omega arith))) ∙ number-take-suc k xs in
    has_sign (sign xs) (length xs) (number xs) (number (take k xs)) xs refl refl (number-take-lt k xs) top
