-- A text that is written number by number.
use Rattle.std.proofs.Common.{◌≡◌, ℕ, zero, suc, ◌+◌, ◌-◌, ◌≤◌, List, ◌∷◌, ◌++◌, Option, Result, Ok, Err, sym, ap, ◌∙◌, append-nil, arith}
use Rattle.std.specs.List.{flat_map, range_with_len}
use Rattle.std.proofs.lemmas.Grind.{flat_map-append}
use Rattle.front_end.specs.Told.{Told}
use Rattle.front_end.specs.declared.untold.Untold.{Untold}
use Rattle.front_end.proofs.Told.{at, told-as, told-cut, told-then}

-- numbers in two parts
range-parts : (a n m : ℕ) → range_with_len a (n + m) ≡ range_with_len a n ++ range_with_len (a + n) m
range-parts a zero m =
    let count : zero + m ≡ m = omega arith in
    let from : a ≡ a + zero = omega arith in
    ap (range_with_len a) count ∙ ap (λ (b : ℕ). range_with_len b m) from
range-parts a (suc n) m =
    let count : suc n + m ≡ suc (n + m) = omega arith in
    let from : a + 1 + n ≡ a + suc n = omega arith in
    ap (range_with_len a) count
    ∙ ap (λ (later : List ℕ). a ∷ later) (range-parts (a + 1) n m)
    ∙ ap (λ (b : ℕ). a ∷ (range_with_len (a + 1) n ++ range_with_len b m)) from

module _ (text_of : ℕ → List ℕ) (first : ℕ) where
  -- the texts of that many numbers
  abbrev told : ℕ → List ℕ
  told n = flat_map text_of (range_with_len first n)

  parts : (n m : ℕ) → told (n + m) ≡ told n ++ flat_map text_of (range_with_len (first + n) m)
  parts n m = ap (flat_map text_of) (range-parts first n m) ∙ flat_map-append text_of (range_with_len first n) (range_with_len (first + n) m)

  -- and of one more
  next : (n : ℕ) → told n ++ text_of (first + n) ≡ told (n + 1)
  next n = sym (parts n 1 ∙ ap (λ (one : List ℕ). told n ++ one) (append-nil (text_of (first + n))))

  -- numbers so far, and one more
  pub next-told : (number : ℕ) → first ≤ number → (a b c : Option (List ℕ)) (l m k : ℕ) (u : Unit {0}) (r : Result (Unit {0}) Untold)
      → Told (told (number - first)) (at a b l m) (Ok u) → Told (text_of number) (at b c m k) r → Told (told (number + 1 - first)) (at a c l k) r
  next-told number low a b c l m k u r one two =
      let place : number ≡ first + (number - first) = omega (arith, low) in
      let count : number - first + 1 ≡ number + 1 - first = omega (arith, low) in
      told-as _ _ (at a c l k) r
      (ap (λ (n : ℕ). told (number - first) ++ text_of n) place ∙ next (number - first) ∙ ap told count)
      (told-then (told (number - first)) (text_of number) a b c l m k u r one two)

  -- numbers so far, and a part of one more, which isn't the last
  pub next-cut : (number count : ℕ) → first ≤ number → number + 1 - first ≤ count → (a b c : Option (List ℕ)) (l m k : ℕ) (u : Unit {0}) (e : Untold)
      → Told (told (number - first)) (at a b l m) (Ok u) → Told (text_of number) (at b c m k) (Err e) → Told (told count) (at a c l k) (Err e)
  next-cut number count low few a b c l m k u e one two =
      let so_far : ℕ = number + 1 - first in
      let whole : so_far + (count - so_far) ≡ count = omega (arith, few) in
      told-as _ _ (at a c l k) (Err e)
      (sym (parts so_far (count - so_far)) ∙ ap told whole)
      (told-cut (told so_far) (flat_map text_of (range_with_len (first + so_far) (count - so_far))) (at a c l k) e (next-told number low a b c l m k u (Err e) one two))

-- so it is with numbers from 0 on
module _ (text_of : ℕ → List ℕ) where
  abbrev before : ℕ → List ℕ
  before n = flat_map text_of (range_with_len 0 n)

  pub next-from_zero : (number : ℕ) (a b c : Option (List ℕ)) (l m k : ℕ) (u : Unit {0}) (r : Result (Unit {0}) Untold)
      → Told (before number) (at a b l m) (Ok u) → Told (text_of number) (at b c m k) r → Told (before (number + 1)) (at a c l k) r
  next-from_zero number a b c l m k u r one two =
      let here : number ≡ number - 0 = omega arith in
      let there : number + 1 - 0 ≡ number + 1 = omega arith in
      told-as _ _ (at a c l k) r (ap before there)
      (next-told text_of 0 number (omega arith) a b c l m k u r (told-as _ _ (at a b l m) (Ok u) (ap before here) one) two)

  pub next-cut-from_zero : (number count : ℕ) → number + 1 ≤ count → (a b c : Option (List ℕ)) (l m k : ℕ) (u : Unit {0}) (e : Untold)
      → Told (before number) (at a b l m) (Ok u) → Told (text_of number) (at b c m k) (Err e) → Told (before count) (at a c l k) (Err e)
  next-cut-from_zero number count few a b c l m k u e one two =
      let here : number ≡ number - 0 = omega arith in
      next-cut text_of 0 number count (omega arith) (omega (arith, few)) a b c l m k u e
      (told-as _ _ (at a b l m) (Ok u) (ap before here) one) two
