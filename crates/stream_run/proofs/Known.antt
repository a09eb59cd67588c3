-- What is known of marks after one row more.
use Rattle.std.proofs.Common.{◌≡◌, ℕ, ◌+◌, ◌<◌, List, [], ◌∷◌, ◌++◌, length, map, Option, refl, sym, ap, ap₂, ◌∙◌, arith}
use Rattle.std.specs.List.{zip}
use Rattle.one_rule.specs.declared.rows.Row.{Row}
use Rattle.stim_report.specs.Batches.{joined, last_cycle}
use Rattle.koika_assert.specs.Violations.{Watched, first_from, first_violated, watched, watched_on}
use Rattle.stim_report.proofs.TotalsOfBatches.{cycles_joined}
use Rattle.koika_assert.proofs.FirstsJoined.{first_joined}

-- a list beside what a function gives of it
beside : {X : Type 0} (f : ℕ → X) (g : X × ℕ → X) (h : ℕ → X) (marks : List ℕ) → ((mark : ℕ) → g (f mark, mark) ≡ h mark) → map g (zip (map f marks) marks) ≡ map h marks
beside {X} f g h [] each = refl
beside {X} f g h (mark ∷ marks) each = ap₂ (λ (x : X) (xs : List X). x ∷ xs) (each mark) (beside f g h marks each)

-- a batch of the row that the rows so far end with, and one more
pub watched-more : (names : List (List ℕ)) (marks : List ℕ) (first : Row) (before : List Row) (last row : Row)
    → watched_on (watched names marks (first ∷ before)) (last ∷ row ∷ []) ≡ watched names marks (first ∷ before ++ row ∷ [])
unfolding watched watched_on
watched-more names marks first before last row =
    let rows = first ∷ before in
    let batch = last ∷ row ∷ [] in
    let cycle = sym (cycles_joined rows batch (omega arith)) in
    let firsts = beside (first_violated rows) (first_from (last_cycle rows + 1) (row ∷ [])) (first_violated (joined rows batch)) marks (λ mark. first_joined rows batch mark) in
    ap₂ (λ (c : ℕ) (fs : List (Option ℕ)). record { names = names; marks = marks; cycles = c; firsts = fs }) cycle firsts

-- the first row is of no cycle
pub watched-first : (names : List (List ℕ)) (marks : List ℕ) (first : Row) → watched names marks [] ≡ watched names marks (first ∷ [])
unfolding watched
watched-first names marks first = refl
