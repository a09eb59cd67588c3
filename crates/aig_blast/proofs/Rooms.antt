-- Room for the values of words of variables.
use Rattle.std.proofs.Common.{◌≡◌, ℕ, ◌+◌, ◌*◌, ◌<◌, Bool, true, false, List, [], ◌∷◌, ◌++◌, length, map, take, get_or, replicate, sym, ap, ◌∙◌, append_assoc, arith}
use Rattle.std.specs.Prelude.{sum, sum_by}
use Rattle.std.proofs.lemmas.List.{length-append, length-replicate, replicate-append-replicate}
use Rattle.std.proofs.lemmas.List.Sums.{sum-map, sum_by_more}
use Rattle.aig_blast.specs.inner.AigSims.{both}
use Rattle.aig_blast.proofs.SimValues.{both-append, length-both}

-- room for one more word
pub room-step : {X : Type 0} (f : X → ℕ) (words : List X) (k : ℕ) (word : X) (init old new : List Bool) → k < length words → word ≡ get_or words k word
    → old ≡ init ++ both (replicate (sum (map f (take k words))) false) → new ≡ old ++ both (replicate (f word) false) → new ≡ init ++ both (replicate (sum (map f (take (k + 1) words))) false)
room-step f words k word init old new within is so_far made =
    let total : sum (map f (take k words)) + f word ≡ sum (map f (take (k + 1) words)) =
    ap (λ n. n + f word) (sum-map f (take k words)) ∙ ap (λ x. sum_by f (take k words) + f x) is ∙ sym (sum_by_more f words k word within) ∙ sym (sum-map f (take (k + 1) words)) in
    let here : List Bool = replicate (sum (map f (take k words))) false in
    let own : List Bool = replicate (f word) false in
    made ∙ ap (λ (front : List Bool). front ++ both own) so_far ∙ append_assoc init (both here) (both own)
    ∙ ap (λ (zeros : List Bool). init ++ zeros) (sym (both-append here own) ∙ ap both (replicate-append-replicate (sum (map f (take k words))) (f word) false ∙ ap (λ n. replicate n false) total))

-- room for one more variable
pub place-step : (init old mid new : List Bool) (n : ℕ) → old ≡ init ++ both (replicate n false) → mid ≡ old ++ false ∷ [] → new ≡ mid ++ true ∷ [] → new ≡ init ++ both (replicate (n + 1) false)
place-step init old mid new n so_far first made =
    let here : List Bool = replicate n false in
    made ∙ ap (λ (front : List Bool). front ++ true ∷ []) first ∙ append_assoc old (false ∷ []) (true ∷ []) ∙ ap (λ (front : List Bool). front ++ both (false ∷ [])) so_far ∙ append_assoc init (both here) (both (false ∷ []))
    ∙ ap (λ (zeros : List Bool). init ++ zeros) (sym (both-append here (false ∷ [])) ∙ ap both (replicate-append-replicate n 1 false))

-- how much room there is then
pub room-length : (old new : List Bool) (n : ℕ) → new ≡ old ++ both (replicate n false) → length new ≡ length old + 2 * n
room-length old new n made =
    omega (arith, ap length made, length-append old (both (replicate n false)), length-both (replicate n false), length-replicate n false)
