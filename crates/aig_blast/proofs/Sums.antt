-- What the ripple adder computes.
use Rattle.std.proofs.Common.{◌≡◌, ℕ, zero, suc, ◌+◌, ◌-◌, ◌*◌, ◌%◌, ◌^◌, ◌<◌, Bool, true, false, not, ltb, List, length, map, take, refl, sym, ap, ap₂, ◌∙◌, arith, zero-add}
use Rattle.std.proofs.Math.Nat.{pow-suc}
use Rattle.std.proofs.lemmas.Bool.{lt-ltb, le-ltb}
use Rattle.std.proofs.lemmas.List.{length_push, take_all, length-map, length-replicate}
use Rattle.aig_blast.specs.BitLists.{bit, number, xor, carry}
use Rattle.aig_blast.specs.Steps.{bit_of, carry_after, sum_after, ult}
use Rattle.aig_blast.specs.inner.Steps.{zeros, add, sub, neg}
use Rattle.aig_blast.proofs.Numbers.{number-push, number-take-suc, number-lt, number-not, number-zeros, mod_from}

pub full_adder : (x y c : Bool) → bit (xor (xor x y) c) + 2 * bit (carry x y c) ≡ bit x + bit y + bit c
full_adder false false false = refl
full_adder false false true = refl
full_adder false true false = refl
full_adder false true true = refl
full_adder true false false = refl
full_adder true false true = refl
full_adder true true false = refl
full_adder true true true = refl

pub length-sum_after : (c : Bool) (xs ys : List Bool) (k : ℕ) → length (sum_after c xs ys k) ≡ k
length-sum_after c xs ys zero = refl
length-sum_after c xs ys (suc k) = omega (arith, length_push (sum_after c xs ys k) (xor (xor (bit_of xs k) (bit_of ys k)) (carry_after c xs ys k)), length-sum_after c xs ys k)

pub sum_step : (s k x y c S X Y p C : ℕ) → s + 2 * k ≡ x + y + C → S + p * C ≡ X + Y + c → S + p * s + p * 2 * k ≡ X + p * x + (Y + p * y) + c
sum_step s k x y c S X Y p C e h = omega (arith, ap (λ n. p * n) e)

pub number-sum_after : (c : Bool) (xs ys : List Bool) (k : ℕ) → number (sum_after c xs ys k) + 2 ^ k * bit (carry_after c xs ys k) ≡ number (take k xs) + number (take k ys) + bit c
number-sum_after c xs ys zero = omega arith
number-sum_after c xs ys (suc k) =
    let x = bit_of xs k in
    let y = bit_of ys k in
    let d = carry_after c xs ys k in
    let s = xor (xor x y) d in
    rw (number-push (sum_after c xs ys k) s, length-sum_after c xs ys k, number-take-suc k xs, number-take-suc k ys, pow-suc 2 k)
    (sum_step (bit s) (bit (carry x y d)) (bit x) (bit y) (bit c) (number (sum_after c xs ys k)) (number (take k xs)) (number (take k ys)) (2 ^ k) (bit d) (full_adder x y d) (number-sum_after c xs ys k))

-- both words whole
pub number-sum : (c : Bool) (xs ys : List Bool) → length xs ≡ length ys → number (sum_after c xs ys (length xs)) + 2 ^ length xs * bit (carry_after c xs ys (length xs)) ≡ number xs + number ys + bit c
number-sum c xs ys same =
    number-sum_after c xs ys (length xs) ∙ ap₂ (λ a b. number a + number b + bit c) (take_all (length xs) xs (omega arith)) (take_all (length xs) ys (omega arith))

pub number-sum-lt : (c : Bool) (xs ys : List Bool) → number (sum_after c xs ys (length xs)) < 2 ^ length xs
number-sum-lt c xs ys =
    let l = number-lt (sum_after c xs ys (length xs)) in
    rw (length-sum_after c xs ys (length xs)) at l

pub number-add : (xs ys : List Bool) → length xs ≡ length ys → number (add xs ys) ≡ (number xs + number ys) % 2 ^ length xs
number-add xs ys same =
    let e = number-sum false xs ys same in
    mod_from (number (add xs ys)) (2 ^ length xs) (bit (carry_after false xs ys (length xs))) (number xs + number ys) (number-sum-lt false xs ys) (omega (arith, e))

pub number-sub : (xs ys : List Bool) → length xs ≡ length ys → number (sub xs ys) ≡ (number xs + (2 ^ length xs - number ys)) % 2 ^ length xs
number-sub xs ys same =
    let e = number-sum true xs (map not ys) (same ∙ sym (length-map ys not)) in
    let turned : number (map not ys) + number ys + 1 ≡ 2 ^ length xs = number-not ys ∙ ap (λ n. 2 ^ n) (sym same) in
    mod_from (number (sub xs ys)) (2 ^ length xs) (bit (carry_after true xs (map not ys) (length xs))) (number xs + (2 ^ length xs - number ys)) (number-sum-lt true xs (map not ys)) (omega (arith, e, turned))

pub number-neg : (xs : List Bool) → number (neg xs) ≡ (2 ^ length xs - number xs) % 2 ^ length xs
number-neg xs =
    let wide : length (zeros (length xs)) ≡ length xs = length-replicate (length xs) false in
    number-sub (zeros (length xs)) xs wide ∙ ap₂ (λ n w. (n + (2 ^ w - number xs)) % 2 ^ w) (number-zeros (length xs)) wide ∙ ap (λ n. n % 2 ^ length xs) (zero-add (2 ^ length xs - number xs))

below_from : (c : Bool) (s p x y m : ℕ) → s < p → m + y + 1 ≡ p → s + p * bit c ≡ x + m + 1 → not c ≡ ltb x y
below_from true s p x y m h e f = sym (le-ltb x y (omega arith))
below_from false s p x y m h e f = sym (lt-ltb x y (omega arith))

pub ult-ltb : (xs ys : List Bool) → length xs ≡ length ys → ult xs ys ≡ ltb (number xs) (number ys)
ult-ltb xs ys same =
    let e = number-sum true xs (map not ys) (same ∙ sym (length-map ys not)) in
    let turned : number (map not ys) + number ys + 1 ≡ 2 ^ length xs = number-not ys ∙ ap (λ n. 2 ^ n) (sym same) in
    below_from (carry_after true xs (map not ys) (length xs)) (number (sum_after true xs (map not ys) (length xs))) (2 ^ length xs) (number xs) (number ys) (number (map not ys)) (number-sum-lt true xs (map not ys)) turned e
