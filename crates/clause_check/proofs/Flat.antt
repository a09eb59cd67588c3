-- Clauses in one list of literals.
use Rattle.std.proofs.Common.{◌≡◌, ℕ, suc, ◌≤◌, List, [], ◌∷◌, ◌++◌, length, drop, take, sum, refl, sym, ap, ap₂, ◌∙◌, arith}
use Rattle.std.proofs.lemmas.List.{drop-append-le, length-drop, nil_from_length, take-append-le, take_all}
use Rattle.std.proofs.lemmas.List.Sums.{sum_by-cons}
use Rattle.clause_check.specs.Clauses.{Clause, Cnf}
use Rattle.clause_check.specs.declared.literal.Literal.{Literal}
use Rattle.clause_check.specs.Flat.{clauses_by}

-- as many clauses as lengths
pub length-clauses_by : (literals : List Literal) (lengths : List ℕ) → length (clauses_by literals lengths) ≡ length lengths
length-clauses_by literals [] = refl
length-clauses_by literals (len ∷ lengths) = ap suc (length-clauses_by (drop len literals) lengths)

-- a clause more at the end
pub clauses_by-push : (literals clause : List Literal) (lengths : List ℕ) → sum lengths ≡ length literals → clauses_by (literals ++ clause) (lengths ++ length clause ∷ []) ≡ clauses_by literals lengths ++ clause ∷ []
clauses_by-push literals clause [] whole =
    let none : literals ≡ [] = nil_from_length literals (sym whole) in
    ap (λ (l : Clause). l ∷ []) (ap (λ (l : List Literal). take (length clause) (l ++ clause)) none ∙ take_all (length clause) clause (omega arith))
clauses_by-push literals clause (len ∷ lengths) whole =
    let parts = sum_by-cons (λ (n : ℕ). n) len lengths in
    let within : len ≤ length literals = omega (arith, whole, parts) in
    ap₂ (λ (c : Clause) (cs : List Clause). c ∷ cs) (take-append-le len literals clause within)
    (ap (λ (l : List Literal). clauses_by l (lengths ++ length clause ∷ [])) (drop-append-le len literals clause within)
    ∙ clauses_by-push (drop len literals) clause lengths (omega (arith, length-drop len literals, whole, parts)))

-- a formula with a clause more
pub pushed : (variables : ℕ) (literals literals' clause : List Literal) (lengths lengths' : List ℕ) (old : Cnf) → sum lengths ≡ length literals → literals' ≡ literals ++ clause → lengths' ≡ lengths ++ length clause ∷ []
    → (let f : Cnf = record { variables = variables; clauses = clauses_by literals lengths } in f) ≡ old
    → (let f : Cnf = record { variables = variables; clauses = clauses_by literals' lengths' } in f) ≡ record { variables = old.variables; clauses = old.clauses ++ clause ∷ [] }
pushed variables literals literals' clause lengths lengths' old whole more_literals more_lengths view =
    ap (λ (cs : List Clause). let f : Cnf = record { variables = variables; clauses = cs } in f) (ap₂ clauses_by more_literals more_lengths ∙ clauses_by-push literals clause lengths whole)
    ∙ ap (λ (f : Cnf). let g : Cnf = record { variables = f.variables; clauses = f.clauses ++ clause ∷ [] } in g) view
