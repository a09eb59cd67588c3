-- Literals and gates of lines, as far as they have places.
use Rattle.std.proofs.Common.{◌≡◌, ℕ, suc, ◌+◌, ◌<◌, ◌≤◌, List, [], ◌∷◌, ◌++◌, length, get_or, drop, Option, None, Some, Result, Ok, Err, refl, sym, ap, ◌∙◌, arith, append_assoc, append-nil}
use Rattle.std.proofs.Math.Seq.{drop-cons}
use Rattle.std.proofs.lemmas.List.{drop_all}
use Rattle.kw_base.specs.declared.fault.Fault.{Fault}
use Rattle.aig_blast.specs.declared.gate.Gate.{Gate}
use Rattle.stim_report.specs.Stimuli.{after, next_line}
use Rattle.aiger_text.specs.Drafts.{fault_in}
use Rattle.aiger_text.specs.Reading.{all_placed, gates_placed, known, placed_literal, placed_gate}

-- items before what is left, if that has no fault
abbrev pub joined_to : {X : Type 0} → List X → Result (List X) Fault → Result (List X) Fault
joined_to front (Ok rest) = Ok (front ++ rest)
joined_to front (Err fault) = Err fault

joined-more : {X : Type 0} (front : List X) (x : X) (r : Result (List X) Fault) → joined_to front (after r (λ others. Ok (x ∷ others))) ≡ joined_to (front ++ x ∷ []) r
joined-more front x (Ok rest) = ap Ok (sym (append_assoc front (x ∷ []) rest))
joined-more front x (Err fault) = refl

none_before : {X : Type 0} (r : Result (List X) Fault) → r ≡ joined_to [] r
none_before (Ok rest) = refl
none_before (Err fault) = refl

pub joined-none : {X : Type 0} (found : List X) (r : Result (List X) Fault) → found ≡ [] → r ≡ joined_to found r
joined-none found r none = none_before r ∙ ap (λ front. joined_to front r) (sym none)

-- what is left begins with the item at an index
pub cut_at : {X : Type 0} (xs : List X) (k : ℕ) (d : X) → k < length xs → drop k xs ≡ get_or xs k d ∷ drop (k + 1) xs
cut_at xs k d within =
    let next : suc k ≡ k + 1 = omega arith in
    drop-cons xs k d within ∙ ap (λ n. get_or xs k d ∷ drop n xs) next

none_left : {X : Type 0} (found : List X) (whole rest : Result (List X) Fault) → rest ≡ Ok [] → whole ≡ joined_to found rest → whole ≡ Ok found
none_left found whole rest none so_far = so_far ∙ ap (joined_to found) none ∙ ap Ok (append-nil found)

module _ (variables : List ℕ) (bound : ℕ) where
  pub all_placed-more : (lits : List ℕ) (k number next d other : ℕ) (found new : List ℕ) (whole : Result (List ℕ) Fault) → k < length lits → next ≡ next_line number → Some other ≡ placed_literal variables bound (get_or lits k d)
      → new ≡ found ++ other ∷ [] → whole ≡ joined_to found (all_placed variables bound number (drop k lits)) → whole ≡ joined_to new (all_placed variables bound next (drop (k + 1) lits))
  all_placed-more lits k number next d other found new whole within then has pushed so_far =
      let rest : Result (List ℕ) Fault = all_placed variables bound (next_line number) (drop (k + 1) lits) in
      so_far ∙ ap (λ ls. joined_to found (all_placed variables bound number ls)) (cut_at lits k d within)
      ∙ ap (λ (p : Option ℕ). joined_to found (after (known number p) (λ first. after rest (λ others. Ok (first ∷ others))))) (sym has)
      ∙ joined-more found other rest ∙ ap (λ n. joined_to (found ++ other ∷ []) (all_placed variables bound n (drop (k + 1) lits))) (sym then)
      ∙ ap (λ front. joined_to front (all_placed variables bound next (drop (k + 1) lits))) (sym pushed)

  pub all_placed-fault : (lits : List ℕ) (k number d : ℕ) (found : List ℕ) (whole : Result (List ℕ) Fault) → k < length lits → None ≡ placed_literal variables bound (get_or lits k d)
      → whole ≡ joined_to found (all_placed variables bound number (drop k lits)) → whole ≡ Err (fault_in 74 number)
  all_placed-fault lits k number d found whole within none so_far =
      let rest : Result (List ℕ) Fault = all_placed variables bound (next_line number) (drop (k + 1) lits) in
      so_far ∙ ap (λ ls. joined_to found (all_placed variables bound number ls)) (cut_at lits k d within)
      ∙ ap (λ (p : Option ℕ). joined_to found (after (known number p) (λ first. after rest (λ others. Ok (first ∷ others))))) (sym none)

  pub all_placed-end : (lits : List ℕ) (k number : ℕ) (found : List ℕ) (whole : Result (List ℕ) Fault) → length lits ≤ k
      → whole ≡ joined_to found (all_placed variables bound number (drop k lits)) → whole ≡ Ok found
  all_placed-end lits k number found whole past so_far = none_left found whole _ (ap (all_placed variables bound number) (drop_all k lits past)) so_far

module _ (variables : List ℕ) where
  pub gates_placed-more : (gates : List Gate) (bound k number next : ℕ) (d other : Gate) (found new : List Gate) (whole : Result (List Gate) Fault) → k < length gates → next ≡ next_line number
      → Some other ≡ placed_gate variables bound (get_or gates k d) → new ≡ found ++ other ∷ [] → whole ≡ joined_to found (gates_placed variables bound number (drop k gates))
      → whole ≡ joined_to new (gates_placed variables (bound + 1) next (drop (k + 1) gates))
  gates_placed-more gates bound k number next d other found new whole within then has pushed so_far =
      let rest : Result (List Gate) Fault = gates_placed variables (bound + 1) (next_line number) (drop (k + 1) gates) in
      so_far ∙ ap (λ gs. joined_to found (gates_placed variables bound number gs)) (cut_at gates k d within)
      ∙ ap (λ (p : Option Gate). joined_to found (after (known number p) (λ first. after rest (λ others. Ok (first ∷ others))))) (sym has)
      ∙ joined-more found other rest ∙ ap (λ n. joined_to (found ++ other ∷ []) (gates_placed variables (bound + 1) n (drop (k + 1) gates))) (sym then)
      ∙ ap (λ front. joined_to front (gates_placed variables (bound + 1) next (drop (k + 1) gates))) (sym pushed)

  pub gates_placed-fault : (gates : List Gate) (bound k number : ℕ) (d : Gate) (found : List Gate) (whole : Result (List Gate) Fault) → k < length gates
      → None ≡ placed_gate variables bound (get_or gates k d) → whole ≡ joined_to found (gates_placed variables bound number (drop k gates)) → whole ≡ Err (fault_in 74 number)
  gates_placed-fault gates bound k number d found whole within none so_far =
      let rest : Result (List Gate) Fault = gates_placed variables (bound + 1) (next_line number) (drop (k + 1) gates) in
      so_far ∙ ap (λ gs. joined_to found (gates_placed variables bound number gs)) (cut_at gates k d within)
      ∙ ap (λ (p : Option Gate). joined_to found (after (known number p) (λ first. after rest (λ others. Ok (first ∷ others))))) (sym none)

  pub gates_placed-end : (gates : List Gate) (bound k number : ℕ) (found : List Gate) (whole : Result (List Gate) Fault) → length gates ≤ k
      → whole ≡ joined_to found (gates_placed variables bound number (drop k gates)) → whole ≡ Ok found
  gates_placed-end gates bound k number found whole past so_far = none_left found whole _ (ap (gates_placed variables bound number) (drop_all k gates past)) so_far
