-- Items that pass a test, with one item more.
use Rattle.std.proofs.Common.{◌≡◌, ℕ, suc, ◌+◌, ◌<◌, ◌≤◌, Bool, cond, List, [], ◌∷◌, ◌++◌, length, take, get_or, ap, sym, ◌∙◌, arith}
use Rattle.std.specs.List.{filter}
use Rattle.std.proofs.Math.Seq.{take-suc}
use Rattle.std.proofs.lemmas.List.{take_all}
use Rattle.std.proofs.lemmas.List.Elements.{filter-append}

pub filter-more : {X : Type 0} (p : X → Bool) (xs : List X) (i : ℕ) (x : X) (before after : List X) → i < length xs → x ≡ get_or xs i x
    → before ≡ filter p (take i xs) → after ≡ before ++ cond (p x) (x ∷ []) [] → after ≡ filter p (take (i + 1) xs)
filter-more p xs i x before after inside is was pushed =
    let next : i + 1 ≡ suc i = omega arith in
    let more = ap (λ k. take k xs) next ∙ take-suc xs i x inside ∙ ap (λ y. take i xs ++ y ∷ []) (sym is) in
    pushed ∙ ap (λ ys. ys ++ cond (p x) (x ∷ []) []) was ∙ sym (ap (filter p) more ∙ filter-append p (take i xs) (x ∷ []))

pub filter-whole : {X : Type 0} (p : X → Bool) (xs : List X) (i : ℕ) (after : List X) → length xs ≤ i → after ≡ filter p (take i xs) → after ≡ filter p xs
filter-whole p xs i after all was = was ∙ ap (filter p) (take_all i xs all)
