-- The variables of broken clauses: where one is true its clause is false after the step, and they can say which clauses
-- are.
use Rattle.std.proofs.Common.{◌≡◌, ℕ, suc, ◌+◌, ◌<◌, Bool, true, false, not, ◌&&◌, ◌||◌, List, [], ◌∷◌, map, length, get_or, refl, sym, ap, ap₂, ◌∙◌, arith, true≢false, inl, inr}
use Rattle.std.specs.List.{list_all, list_any}
use Rattle.std.proofs.lemmas.Bool.{and_from, and_left, and_parts, and_right, not-true, or_cases, or_from, or_parts}
use Rattle.std.proofs.lemmas.List.Folds.{list_all-append}
use Rattle.clause_check.specs.Clauses.{Clause}
use Rattle.clause_check.specs.declared.literal.Literal.{Literal}
use Rattle.aig_blast.specs.Graphs.{negation}
use Rattle.invariant_check.specs.Obligations.{after_step, all_broken_clauses, broken_clauses, broken_lits, negated, plain}
use Rattle.invariant_check.proofs.Folding.{all_hold, lit_true, negated-true, negation-true, plain-true, some_true}

-- a literal, and a clause, after the step
abbrev pub literal_after : (ℕ → Bool) → List ℕ → Literal → Bool
literal_after g nexts literal = lit_true g (after_step nexts literal)

abbrev pub clause_after : (ℕ → Bool) → List ℕ → Clause → Bool
clause_after g nexts clause = list_any (literal_after g nexts) clause

-- a clause of two literals
two : (g : ℕ → Bool) (v : ℕ) (nexts : List ℕ) (literal : Literal)
    → some_true g (negated v ∷ negation (after_step nexts literal) ∷ [])
    ≡ (not (g v) || (not (literal_after g nexts literal) || false))
two g v nexts literal = ap₂ (λ a b. a || (b || false)) (negated-true g v) (negation-true g (after_step nexts literal))

two_say : (x y : Bool) → (not x || (not y || false)) ≡ true → x ≡ true → y ≡ false
two_say x true holds is = absurd (true≢false (sym holds ∙ ap (λ t. not t || false) is))
two_say x false holds is = refl

two_hold : (x y : Bool) → (x ≡ true → y ≡ false) → (not x || (not y || false)) ≡ true
two_hold true true says = absurd (true≢false (says refl))
two_hold true false says = refl
two_hold false y says = refl

-- one clause
broken_says : (g : ℕ → Bool) (nexts : List ℕ) (v : ℕ) (clause : Clause) → all_hold g (broken_clauses nexts v clause)
    ≡ true → g v ≡ true → clause_after g nexts clause ≡ false
broken_says g nexts v [] holds is = refl
broken_says g nexts v (literal ∷ clause) holds is =
    let parts = and_parts (some_true g (negated v ∷ negation (after_step nexts literal) ∷ []))
    (all_hold g (broken_clauses nexts v clause)) holds in
    or_from (literal_after g nexts literal) (clause_after g nexts clause)
    (two_say (g v) (literal_after g nexts literal) (sym (two g v nexts literal) ∙ parts.0) is)
    (broken_says g nexts v clause parts.1 is)

broken_hold : (g : ℕ → Bool) (nexts : List ℕ) (v : ℕ) (clause : Clause)
    → (g v ≡ true → clause_after g nexts clause ≡ false) → all_hold g (broken_clauses nexts v clause) ≡ true
broken_hold g nexts v [] says = refl
broken_hold g nexts v (literal ∷ clause) says =
    and_from (some_true g (negated v ∷ negation (after_step nexts literal) ∷ []))
    (all_hold g (broken_clauses nexts v clause))
    (two g v nexts literal
    ∙ two_hold (g v) (literal_after g nexts literal)
    (λ is. (or_parts (literal_after g nexts literal) (clause_after g nexts clause) (says is)).0))
    (broken_hold g nexts v clause
    (λ is. (or_parts (literal_after g nexts literal) (clause_after g nexts clause) (says is)).1))

both_parts : (g : ℕ → Bool) (nexts : List ℕ) (v : ℕ) (clause : Clause) (clauses : List Clause)
    → all_hold g (all_broken_clauses nexts v (clause ∷ clauses))
    ≡ (all_hold g (broken_clauses nexts v clause) && all_hold g (all_broken_clauses nexts (v + 1) clauses))
both_parts g nexts v clause clauses = list_all-append (some_true g) (broken_clauses nexts v clause)
    (all_broken_clauses nexts (v + 1) clauses)

-- where the clauses hold and a variable is true, some clause is false
pub some_broken : (g : ℕ → Bool) (nexts : List ℕ) (v : ℕ) (clauses : List Clause)
    → all_hold g (all_broken_clauses nexts v clauses) ≡ true
    → some_true g (broken_lits v (length clauses)) ≡ true → list_all (clause_after g nexts) clauses ≡ false
some_broken g nexts v [] holds is = absurd (true≢false (sym is))
some_broken g nexts v (clause ∷ clauses) holds is =
    let parts = and_parts (all_hold g (broken_clauses nexts v clause))
    (all_hold g (all_broken_clauses nexts (v + 1) clauses)) (sym (both_parts g nexts v clause clauses) ∙ holds) in
    elim (or_cases (lit_true g (plain v)) (some_true g (broken_lits (v + 1) (length clauses))) is) [
      | inl own ↦
          and_left (clause_after g nexts clause) (list_all (clause_after g nexts) clauses)
          (broken_says g nexts v clause parts.0 (sym (plain-true g v) ∙ own))
      | inr other ↦ and_right (clause_after g nexts clause) (list_all (clause_after g nexts) clauses)
          (some_broken g nexts (v + 1) clauses parts.1 other)
    ]

-- the variables say which clauses are false
abbrev pub Flags : (ℕ → Bool) → List ℕ → ℕ → List Clause → Type 0
Flags g nexts v [] = Unit {0}
Flags g nexts v (clause ∷ clauses) = (g v ≡ not (clause_after g nexts clause)) × Flags g nexts (v + 1) clauses

pub flags_hold : (g : ℕ → Bool) (nexts : List ℕ) (v : ℕ) (clauses : List Clause) → Flags g nexts v clauses
    → all_hold g (all_broken_clauses nexts v clauses) ≡ true
flags_hold g nexts v [] flags = refl
flags_hold g nexts v (clause ∷ clauses) flags =
    both_parts g nexts v clause clauses
    ∙ and_from (all_hold g (broken_clauses nexts v clause)) (all_hold g (all_broken_clauses nexts (v + 1) clauses))
    (broken_hold g nexts v clause (λ is. not-true (clause_after g nexts clause) (sym flags.0 ∙ is)))
    (flags_hold g nexts (v + 1) clauses flags.1)

not-and : (x y : Bool) → (not x || not y) ≡ not (x && y)
not-and true y = refl
not-and false y = refl

pub flags_say : (g : ℕ → Bool) (nexts : List ℕ) (v : ℕ) (clauses : List Clause) → Flags g nexts v clauses
    → some_true g (broken_lits v (length clauses)) ≡ not (list_all (clause_after g nexts) clauses)
flags_say g nexts v [] flags = refl
flags_say g nexts v (clause ∷ clauses) flags =
    ap₂ (λ a b. a || b) (plain-true g v ∙ flags.0) (flags_say g nexts (v + 1) clauses flags.1)
    ∙ not-and (clause_after g nexts clause) (list_all (clause_after g nexts) clauses)

-- flags in a row
pub flags_in : (g : ℕ → Bool) (nexts : List ℕ) (v : ℕ) (clauses : List Clause) (row : List Bool) → row
    ≡ map (λ (clause : Clause). not (clause_after g nexts clause)) clauses
    → ((k : ℕ) → k < length clauses → g (v + k) ≡ get_or row k false) → Flags g nexts v clauses
flags_in g nexts v [] row is each = tt
flags_in g nexts v (clause ∷ clauses) row is each =
    let rest : List Bool = map (λ (other : Clause). not (clause_after g nexts other)) clauses in
    let here : v + 0 ≡ v = omega arith in (
      sym (ap g here) ∙ each 0 (omega arith) ∙ ap (λ (xs : List Bool). get_or xs 0 false) is,
      flags_in g nexts (v + 1) clauses rest refl (λ k within.
          let next : v + suc k ≡ v + 1 + k = omega arith in
          sym (ap g next) ∙ each (suc k) (omega (arith, within)) ∙ ap (λ (xs : List Bool). get_or xs (suc k) false) is),
    )
