-- A list made number by number.
use Rattle.std.proofs.Common.{◌≡◌, ℕ, ◌+◌, [], ◌∷◌, ◌++◌, length, map, get_or, sym, ap, ◌∙◌, arith}
use Rattle.std.specs.List.{range_with_len}
use Rattle.std.proofs.lemmas.List.{take_more, take_all}
use Rattle.std.proofs.lemmas.List.FromFn.{length-map-range_with_len, take-map-range_with_len, get_or-map-range_with_len}

-- one number more
pub map_range_more : {X : Type 0} (f : ℕ → X) (n : ℕ) → map f (range_with_len 0 (n + 1)) ≡ map f (range_with_len 0 n) ++ f n ∷ []
map_range_more f n =
    let xs = map f (range_with_len 0 (n + 1)) in
    let size : length xs ≡ n + 1 = length-map-range_with_len f 0 (n + 1) in
    let last = get_or-map-range_with_len f 0 (n + 1) n n (f n) (omega arith) (omega arith) in
    sym (take_all (n + 1) xs (omega arith)) ∙ take_more xs n (f n) (omega arith)
    ∙ ap (λ ys. ys ++ get_or xs n (f n) ∷ []) (take-map-range_with_len f 0 (n + 1) n (omega arith)) ∙ ap (λ y. map f (range_with_len 0 n) ++ y ∷ []) last
