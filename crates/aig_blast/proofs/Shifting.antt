-- What the barrel shifters compute.
use Rattle.std.proofs.Common.{◌≡◌, ℕ, zero, suc, ◌+◌, ◌*◌, ◌/◌, ◌%◌, ◌^◌, min, Bool, true, false, not, List, ◌∷◌, ◌++◌, length, map, take, drop, replicate, refl, sym, ap, ap₂, ◌∙◌, arith}
use Rattle.std.proofs.Math.Nat.{mod-eq_of_lt, mul_assoc}
use Rattle.std.proofs.lemmas.Nat.{pow-add, shr-shr, mul-mod_first}
use Rattle.std.proofs.lemmas.List.{length-append, length-replicate, length-drop, take_all, map-append, drop-map, length-map}
use Rattle.aig_blast.specs.BitLists.{bit, number}
use Rattle.aig_blast.specs.Steps.{bit_of, choose}
use Rattle.aig_blast.specs.inner.Steps.{zeros, up, down, up_after, down_after, sll, srl}
use Rattle.aig_blast.proofs.Numbers.{number-append, number-zeros, number-drop, number-take-suc, number-lt}
use Rattle.aig_blast.proofs.Products.{length-up, number-up}

length-choose : (c : Bool) (xs ys : List Bool) (w : ℕ) → length xs ≡ w → length ys ≡ w → length (choose c xs ys) ≡ w
length-choose true xs ys w p q = p
length-choose false xs ys w p q = q

-- ---- up

pub length-up_after : (xs ys : List Bool) (k : ℕ) → length (up_after xs ys k) ≡ length xs
length-up_after xs ys zero = refl
length-up_after xs ys (suc k) =
    let so_far = up_after xs ys k in
    let wide = length-up_after xs ys k in
    length-choose (bit_of ys k) (up (2 ^ k) so_far) so_far (length xs) (length-up (2 ^ k) so_far ∙ wide) wide

up_step : (b : Bool) (zs : List Bool) (w x t q : ℕ) → length zs ≡ w → number zs ≡ x * 2 ^ t % 2 ^ w → number (choose b (up q zs) zs) ≡ x * 2 ^ (t + q * bit b) % 2 ^ w
up_step true zs w x t q wide so_far =
    let more : x * 2 ^ t * 2 ^ q ≡ x * 2 ^ (t + q * 1) = mul_assoc x (2 ^ t) (2 ^ q) ∙ ap (λ n. x * n) (sym (pow-add 2 t q)) ∙ ap (λ n. x * 2 ^ n) (omega arith) in
    number-up q zs ∙ ap₂ (λ n v. n * 2 ^ q % 2 ^ v) so_far wide ∙ mul-mod_first (x * 2 ^ t) (2 ^ q) (2 ^ w) ∙ ap (λ n. n % 2 ^ w) more
up_step false zs w x t q wide so_far = so_far ∙ ap (λ n. x * 2 ^ n % 2 ^ w) (omega arith)

pub number-up_after : (xs ys : List Bool) (k : ℕ) → number (up_after xs ys k) ≡ number xs * 2 ^ number (take k ys) % 2 ^ length xs
number-up_after xs ys zero = sym (ap (λ n. n % 2 ^ length xs) (omega arith) ∙ mod-eq_of_lt (number-lt xs))
number-up_after xs ys (suc k) =
    up_step (bit_of ys k) (up_after xs ys k) (length xs) (number xs) (number (take k ys)) (2 ^ k) (length-up_after xs ys k) (number-up_after xs ys k)
    ∙ ap (λ n. number xs * 2 ^ n % 2 ^ length xs) (sym (number-take-suc k ys))

pub number-sll : (xs ys : List Bool) → number (sll xs ys) ≡ number xs * 2 ^ number ys % 2 ^ length xs
number-sll xs ys =
    number-up_after xs ys (length ys) ∙ ap (λ zs. number xs * 2 ^ number zs % 2 ^ length xs) (take_all (length ys) ys (omega arith))

-- ---- down

pub length-down : (fill : Bool) (k : ℕ) (xs : List Bool) → length (down fill k xs) ≡ length xs
length-down fill k xs =
    omega (arith, length-append (drop k xs) (replicate (min k (length xs)) fill), length-drop k xs, length-replicate (min k (length xs)) fill)

pub number-down : (k : ℕ) (xs : List Bool) → number (down false k xs) ≡ number xs / 2 ^ k
number-down k xs =
    number-append (drop k xs) (zeros (min k (length xs))) ∙ ap (λ n. number (drop k xs) + 2 ^ length (drop k xs) * n) (number-zeros (min k (length xs))) ∙ omega arith ∙ number-drop k xs

pub length-down_after : (fill : Bool) (xs ys : List Bool) (k : ℕ) → length (down_after fill xs ys k) ≡ length xs
length-down_after fill xs ys zero = refl
length-down_after fill xs ys (suc k) =
    let so_far = down_after fill xs ys k in
    let wide = length-down_after fill xs ys k in
    length-choose (bit_of ys k) (down fill (2 ^ k) so_far) so_far (length xs) (length-down fill (2 ^ k) so_far ∙ wide) wide

down_step : (b : Bool) (zs : List Bool) (x t q : ℕ) → number zs ≡ x / 2 ^ t → number (choose b (down false q zs) zs) ≡ x / 2 ^ (t + q * bit b)
down_step true zs x t q so_far =
    number-down q zs ∙ ap (λ n. n / 2 ^ q) so_far ∙ shr-shr x t q ∙ ap (λ n. x / 2 ^ n) (omega arith)
down_step false zs x t q so_far = so_far ∙ ap (λ n. x / 2 ^ n) (omega arith)

pub number-down_after : (xs ys : List Bool) (k : ℕ) → number (down_after false xs ys k) ≡ number xs / 2 ^ number (take k ys)
number-down_after xs ys zero = omega arith
number-down_after xs ys (suc k) =
    down_step (bit_of ys k) (down_after false xs ys k) (number xs) (number (take k ys)) (2 ^ k) (number-down_after xs ys k) ∙ ap (λ n. number xs / 2 ^ n) (sym (number-take-suc k ys))

pub number-srl : (xs ys : List Bool) → number (srl xs ys) ≡ number xs / 2 ^ number ys
number-srl xs ys =
    number-down_after xs ys (length ys) ∙ ap (λ zs. number xs / 2 ^ number zs) (take_all (length ys) ys (omega arith))

-- ---- down with ones above: the complement with zeros above

pub map_not-replicate : (n : ℕ) → map not (replicate n true) ≡ replicate n false
map_not-replicate zero = refl
map_not-replicate (suc n) = ap (λ xs. false ∷ xs) (map_not-replicate n)

not-down : (k : ℕ) (xs : List Bool) → map not (down true k xs) ≡ down false k (map not xs)
not-down k xs =
    map-append not (drop k xs) (replicate (min k (length xs)) true)
    ∙ ap₂ (λ a b. a ++ b) (sym (drop-map not k xs)) (map_not-replicate (min k (length xs)) ∙ ap (λ n. replicate (min k n) false) (sym (length-map xs not)))

pub not-choose : (c : Bool) (xs ys : List Bool) → map not (choose c xs ys) ≡ choose c (map not xs) (map not ys)
not-choose true xs ys = refl
not-choose false xs ys = refl

pub not-down_after : (xs ys : List Bool) (k : ℕ) → map not (down_after true xs ys k) ≡ down_after false (map not xs) ys k
not-down_after xs ys zero = refl
not-down_after xs ys (suc k) =
    let so_far = down_after true xs ys k in
    not-choose (bit_of ys k) (down true (2 ^ k) so_far) so_far
    ∙ ap₂ (choose (bit_of ys k)) (not-down (2 ^ k) so_far ∙ ap (down false (2 ^ k)) (not-down_after xs ys k)) (not-down_after xs ys k)
