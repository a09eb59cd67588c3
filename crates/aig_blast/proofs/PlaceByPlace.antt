-- What gates at each place compute.
use Rattle.std.proofs.Common.{◌≡◌, ℕ, ◌+◌, ◌*◌, ◌^◌, ◌<◌, Bool, true, false, ◌&&◌, ◌||◌, List, [], ◌∷◌, length, bit_and, bit_or, bit_xor, refl, sym, ap₂, ◌∙◌, arith}
use Rattle.std.proofs.lemmas.Nat.{and_block, or_block, xor_block}
use Rattle.aig_blast.specs.BitLists.{bit, number, xor, zip_with}
use Rattle.aig_blast.proofs.Numbers.{bit-lt}

-- a function of two numbers that goes bit by bit
module _ (f : Bool → Bool → Bool) (op : ℕ → ℕ → ℕ)
    (none : op 0 0 ≡ 0) (one : (x y : Bool) → op (bit x) (bit y) ≡ bit (f x y))
    (block : (k a b r s : ℕ) → r < 2 ^ k → s < 2 ^ k → op (a * 2 ^ k + r) (b * 2 ^ k + s) ≡ op a b * 2 ^ k + op r s) where
  turned : (b n : ℕ) → n * 2 ^ 1 + b ≡ b + 2 * n
  turned b n = omega arith

  pub number-zip_with : (xs ys : List Bool) → length xs ≡ length ys → number (zip_with f xs ys) ≡ op (number xs) (number ys)
  number-zip_with [] [] same = sym none
  number-zip_with [] (y ∷ ys) same = absurd (omega arith)
  number-zip_with (x ∷ xs) [] same = absurd (omega arith)
  number-zip_with (x ∷ xs) (y ∷ ys) same =
      ap₂ (λ b n. b + 2 * n) (sym (one x y)) (number-zip_with xs ys (omega arith)) ∙ sym (turned (op (bit x) (bit y)) (op (number xs) (number ys)))
      ∙ sym (block 1 (number xs) (number ys) (bit x) (bit y) (bit-lt x) (bit-lt y)) ∙ ap₂ op (turned (bit x) (number xs)) (turned (bit y) (number ys))

and_one : (x y : Bool) → bit_and (bit x) (bit y) ≡ bit (x && y)
and_one false false = refl
and_one false true = refl
and_one true false = refl
and_one true true = refl

or_one : (x y : Bool) → bit_or (bit x) (bit y) ≡ bit (x || y)
or_one false false = refl
or_one false true = refl
or_one true false = refl
or_one true true = refl

xor_one : (x y : Bool) → bit_xor (bit x) (bit y) ≡ bit (xor x y)
xor_one false false = refl
xor_one false true = refl
xor_one true false = refl
xor_one true true = refl

pub number-and : (xs ys : List Bool) → length xs ≡ length ys → number (zip_with (λ x y. x && y) xs ys) ≡ bit_and (number xs) (number ys)
number-and = number-zip_with (λ x y. x && y) bit_and refl and_one and_block

pub number-or : (xs ys : List Bool) → length xs ≡ length ys → number (zip_with (λ x y. x || y) xs ys) ≡ bit_or (number xs) (number ys)
number-or = number-zip_with (λ x y. x || y) bit_or refl or_one or_block

pub number-xor : (xs ys : List Bool) → length xs ≡ length ys → number (zip_with xor xs ys) ≡ bit_xor (number xs) (number ys)
number-xor = number-zip_with xor bit_xor refl xor_one xor_block
