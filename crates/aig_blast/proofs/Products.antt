-- What the shift-and-add multiplier computes.
use Rattle.std.proofs.Common.{◌≡◌, ℕ, zero, suc, ◌+◌, ◌*◌, ◌%◌, ◌^◌, Bool, true, false, ◌&&◌, List, [], ◌∷◌, ◌++◌, length, take, sym, ap, ap₂, ◌∙◌, arith}
use Rattle.std.proofs.Math.Nat.{zero-mod, mod-mod, add-mod}
use Rattle.std.proofs.lemmas.List.{length-append, length-replicate, length-map, length-take-le, take_all}
use Rattle.aig_blast.specs.BitLists.{bit, number}
use Rattle.aig_blast.specs.Steps.{bit_of, gated}
use Rattle.aig_blast.specs.inner.Steps.{zeros, up, product_after, mul}
use Rattle.aig_blast.proofs.Numbers.{number-append, number-zeros, number-take, number-take-suc, bit-and}
use Rattle.aig_blast.proofs.Sums.{length-sum_after, number-add}

pub length-up : (k : ℕ) (xs : List Bool) → length (up k xs) ≡ length xs
length-up k xs = length-take-le (length xs) (zeros k ++ xs) (omega (arith, length-append (zeros k) xs))

pub number-up : (k : ℕ) (xs : List Bool) → number (up k xs) ≡ number xs * 2 ^ k % 2 ^ length xs
number-up k xs =
    let whole : number (zeros k ++ xs) ≡ number xs * 2 ^ k = rw (number-append (zeros k) xs, number-zeros k, length-replicate k false) (omega arith) in
    number-take (length xs) (zeros k ++ xs) ∙ ap (λ n. n % 2 ^ length xs) whole

pub number-gated : (c : Bool) (xs : List Bool) → number (gated c xs) ≡ bit c * number xs
number-gated c [] = omega arith
number-gated c (x ∷ xs) = omega (arith, bit-and x c, number-gated c xs)

pub length-product_after : (xs ys : List Bool) (k : ℕ) → length (product_after xs ys k) ≡ length xs
length-product_after xs ys zero = length-replicate (length xs) false
length-product_after xs ys (suc k) =
    length-sum_after false (product_after xs ys k) (gated (bit_of ys k) (up k xs)) (length (product_after xs ys k)) ∙ length-product_after xs ys k

step : (b : Bool) (x t p q : ℕ) → (x * t % p + bit b * (x * q % p)) % p ≡ x * (t + q * bit b) % p
step false x t p q =
    let none : x * t % p + 0 * (x * q % p) ≡ x * t % p = omega arith in
    let same : x * (t + q * 0) ≡ x * t = omega arith in
    ap (λ n. n % p) none ∙ mod-mod (x * t) p ∙ ap (λ n. n % p) (sym same)
step true x t p q =
    let one : x * t % p + 1 * (x * q % p) ≡ x * t % p + x * q % p = omega arith in
    let same : x * (t + q * 1) ≡ x * t + x * q = omega arith in
    ap (λ n. n % p) one ∙ sym (add-mod (x * t) (x * q) p) ∙ ap (λ n. n % p) (sym same)

pub number-product_after : (xs ys : List Bool) (k : ℕ) → number (product_after xs ys k) ≡ number xs * number (take k ys) % 2 ^ length xs
number-product_after xs ys zero =
    number-zeros (length xs) ∙ sym (zero-mod (2 ^ length xs)) ∙ ap (λ n. n % 2 ^ length xs) (omega arith)
number-product_after xs ys (suc k) =
    let so_far = product_after xs ys k in
    let row = gated (bit_of ys k) (up k xs) in
    let wide : length so_far ≡ length xs = length-product_after xs ys k in
    let same : length so_far ≡ length row = wide ∙ sym (length-map (up k xs) (λ x. x && bit_of ys k) ∙ length-up k xs) in
    number-add so_far row same ∙ ap (λ w. (number so_far + number row) % 2 ^ w) wide
    ∙ ap₂ (λ a b. (a + b) % 2 ^ length xs) (number-product_after xs ys k) (number-gated (bit_of ys k) (up k xs) ∙ ap (λ n. bit (bit_of ys k) * n) (number-up k xs))
    ∙ step (bit_of ys k) (number xs) (number (take k ys)) (2 ^ length xs) (2 ^ k)
    ∙ ap (λ n. number xs * n % 2 ^ length xs) (sym (number-take-suc k ys))

pub number-mul : (xs ys : List Bool) → number (mul xs ys) ≡ number xs * number ys % 2 ^ length xs
number-mul xs ys =
    number-product_after xs ys (length ys) ∙ ap (λ zs. number xs * number zs % 2 ^ length xs) (take_all (length ys) ys (omega arith))
