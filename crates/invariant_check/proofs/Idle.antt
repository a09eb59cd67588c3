-- Where an obligation has the clause without literals: only where nothing is claimed that could fail.
use Rattle.std.proofs.Common.{◌≡◌, ◌≢◌, ℕ, ◌+◌, ◌≤◌, Bool, true, false, not, cond, ◌||◌, eqb, List, [], ◌∷◌, ◌++◌, length, map, filter, flat_map, refl, sym, ap, subst, ◌∙◌, append-nil, arith, true≢false, inl, inr, sum}
use Rattle.std.specs.List.{All, list_any}
use Rattle.std.proofs.lemmas.Bool.{eqb-true, false_from_ne_true, or_cases, or_from}
use Rattle.std.proofs.lemmas.List.Elements.{All-append, All-cons, All-head, All-nil, All-tail}
use Rattle.std.proofs.lemmas.List.Folds.{list_any-append}
use Rattle.clause_check.specs.Clauses.{Clause, IsLiteral}
use Rattle.clause_check.specs.Refutations.{is_empty}
use Rattle.clause_check.specs.declared.literal.Literal.{Literal}
use Rattle.aig_blast.specs.Aigs.{AigParts, input_word_widths, latch_widths, sources}
use Rattle.aig_blast.specs.Graphs.{negation}
use Rattle.aig_blast.specs.declared.gate.Gate.{Gate}
use Rattle.invariant_check.specs.Cones.{is_needed}
use Rattle.invariant_check.specs.Kept.{HaveLiterals, IsIdle}
use Rattle.invariant_check.specs.inner.Kept.{IsClaim}
use Rattle.invariant_check.specs.Obligations.{after_step, all_broken_clauses, before_step, broken_clauses, broken_lits, claimed_lits, folded, gate_clauses, graph_clauses, literal_of, needed_in, negated, next_lits, obligation_of, plain, top_of}
use Rattle.invariant_check.proofs.Breaking.{before_part, broken_part, broken_row, graph_part}
use Rattle.invariant_check.proofs.Drafting.{flat_map-append}
use Rattle.invariant_check.proofs.Folding.{half-signed}
use Rattle.invariant_check.proofs.Lists.{all_left, all_right}

abbrev pub AllZero : List ℕ → Type 0
AllZero lits = All (λ lit. lit ≡ 0) lits

-- the literals that are left are none
all_zero : (lits : List ℕ) → is_empty (map literal_of (filter (λ lit. not (eqb lit 0)) lits)) ≡ true → AllZero lits
all_zero [] is = All-nil (λ (lit : ℕ). lit ≡ 0)
all_zero (lit ∷ lits) is = by (λ rest. all_zero lits rest) (eqb lit 0) refl is
  where
    by : (is_empty (map literal_of (filter (λ n. not (eqb n 0)) lits)) ≡ true → AllZero lits) → (t : Bool) → eqb lit 0
        ≡ t
        → is_empty (map literal_of
        (cond (not t) (lit ∷ filter (λ n. not (eqb n 0)) lits) (filter (λ n. not (eqb n 0)) lits))) ≡ true
        → AllZero (lit ∷ lits)
    by later true zero_is rest = All-cons (λ (n : ℕ). n ≡ 0) lit lits (eqb-true lit 0 zero_is) (later rest)
    by later false other rest = absurd (true≢false (sym rest))

folded_empty : (lits : List ℕ) → list_any is_empty (folded lits) ≡ true → AllZero lits
folded_empty lits is = by (list_any (λ lit. eqb lit 1) lits) is
  where
    by : (t : Bool) → list_any is_empty (cond t [] (map literal_of (filter (λ lit. not (eqb lit 0)) lits) ∷ [])) ≡ true
        → AllZero lits
    by true found = absurd (true≢false (sym found))
    by false found =
        elim (or_cases (is_empty (map literal_of (filter (λ lit. not (eqb lit 0)) lits))) false found) [
          | inl own ↦ all_zero lits own
          | inr none ↦ absurd (true≢false (sym none))
        ]

-- rows with a literal that isn't the constant false
none_empty : (rows : List (List ℕ)) → All (λ lits. ¬ (AllZero lits)) rows → list_any is_empty (flat_map folded rows)
    ≡ false
none_empty [] each = refl
none_empty (lits ∷ rows) each =
    list_any-append is_empty (folded lits) (flat_map folded rows)
    ∙ or_from (list_any is_empty (folded lits)) (list_any is_empty (flat_map folded rows))
    (false_from_ne_true (list_any is_empty (folded lits))
    (λ is. All-head (λ (r : List ℕ). ¬ (AllZero r)) lits rows each (folded_empty lits is)))
    (none_empty rows (All-tail (λ (r : List ℕ). ¬ (AllZero r)) lits rows each))

first_counts : (lit : ℕ) (lits : List ℕ) → lit ≢ 0 → ¬ (AllZero (lit ∷ lits))
first_counts lit lits other = λ all. other (All-head (λ (n : ℕ). n ≡ 0) lit lits all)

before_counts : (inputs bits : ℕ) (clause : Clause) → clause ≢ [] → All (IsLiteral bits) clause
    → ¬ (AllZero (map (before_step inputs) clause))
before_counts inputs bits [] some are = λ all. some refl
before_counts inputs bits (literal ∷ clause) some are =
    let own : IsLiteral bits literal = All-head (IsLiteral bits) literal clause are in
    first_counts (before_step inputs literal) (map (before_step inputs) clause)
    (λ none. omega (arith, own.some, half-signed literal.is_negated (plain (inputs + literal.variable)), none))

all_before : (inputs bits : ℕ) (clauses : List Clause) → HaveLiterals clauses → All (All (IsLiteral bits)) clauses
    → All (λ lits. ¬ (AllZero lits)) (map (λ (clause : Clause). map (before_step inputs) clause) clauses)
all_before inputs bits [] some are = All-nil (λ (lits : List ℕ). ¬ (AllZero lits))
all_before inputs bits (clause ∷ clauses) some are =
    All-cons (λ (lits : List ℕ). ¬ (AllZero lits)) (map (before_step inputs) clause)
    (map (λ (other : Clause). map (before_step inputs) other) clauses)
    (before_counts inputs bits clause (All-head (λ (c : Clause). c ≢ []) clause clauses some)
    (All-head (All (IsLiteral bits)) clause clauses are))
    (all_before inputs bits clauses (All-tail (λ (c : Clause). c ≢ []) clause clauses some)
    (All-tail (All (IsLiteral bits)) clause clauses are))

all_rows : (xs ys : List (List ℕ)) → All (λ lits. ¬ (AllZero lits)) xs → All (λ lits. ¬ (AllZero lits)) ys
    → All (λ lits. ¬ (AllZero lits)) (xs ++ ys)
all_rows xs ys = All-append (λ (lits : List ℕ). ¬ (AllZero lits)) xs ys

gate_counts : (v : ℕ) (gate : Gate) → 1 ≤ v → All (λ lits. ¬ (AllZero lits)) (gate_clauses v gate)
gate_counts v gate some =
    let P : List ℕ → Type 0 = λ lits. ¬ (AllZero lits) in
    let left : List ℕ = negated v ∷ gate.left ∷ [] in
    let right : List ℕ = negated v ∷ gate.right ∷ [] in
    let both : List ℕ = plain v ∷ negation gate.left ∷ negation gate.right ∷ [] in
    All-cons P left (right ∷ both ∷ []) (first_counts (negated v) (gate.left ∷ []) (λ none. omega (arith, none)))
    (All-cons P right (both ∷ []) (first_counts (negated v) (gate.right ∷ []) (λ none. omega (arith, none)))
    (All-cons P both [] (first_counts (plain v) (negation gate.left ∷ negation gate.right ∷ [])
    (λ none. omega (arith, none, some))) (All-nil P)))

all_gates : (needed : List Bool) (v : ℕ) (gates : List Gate) → 1 ≤ v
    → All (λ lits. ¬ (AllZero lits)) (graph_clauses needed v gates)
all_gates needed v [] some = All-nil (λ (lits : List ℕ). ¬ (AllZero lits))
all_gates needed v (gate ∷ gates) some =
    all_rows (cond (is_needed needed v) (gate_clauses v gate) []) (graph_clauses needed (v + 1) gates)
    (by (is_needed needed v)) (all_gates needed (v + 1) gates (omega arith))
  where
    by : (t : Bool) → All (λ lits. ¬ (AllZero lits)) (cond t (gate_clauses v gate) [])
    by true = gate_counts v gate some
    by false = All-nil (λ (lits : List ℕ). ¬ (AllZero lits))

all_broken : (nexts : List ℕ) (v : ℕ) (clause : Clause) → All (λ lits. ¬ (AllZero lits)) (broken_clauses nexts v clause)
all_broken nexts v [] = All-nil (λ (lits : List ℕ). ¬ (AllZero lits))
all_broken nexts v (literal ∷ clause) =
    All-cons (λ (lits : List ℕ). ¬ (AllZero lits)) (negated v ∷ negation (after_step nexts literal) ∷ [])
    (broken_clauses nexts v clause)
    (first_counts (negated v) (negation (after_step nexts literal) ∷ []) (λ none. omega (arith, none)))
    (all_broken nexts v clause)

every_broken : (nexts : List ℕ) (v : ℕ) (clauses : List Clause)
    → All (λ lits. ¬ (AllZero lits)) (all_broken_clauses nexts v clauses)
every_broken nexts v [] = All-nil (λ (lits : List ℕ). ¬ (AllZero lits))
every_broken nexts v (clause ∷ clauses) =
    all_rows (broken_clauses nexts v clause) (all_broken_clauses nexts (v + 1) clauses) (all_broken nexts v clause)
    (every_broken nexts (v + 1) clauses)

no_clauses : (v : ℕ) (clauses : List Clause) → 1 ≤ v → AllZero (broken_lits v (length clauses)) → clauses ≡ []
no_clauses v [] some all = refl
no_clauses v (clause ∷ clauses) some all =
    absurd (first_counts (plain v) (broken_lits (v + 1) (length clauses)) (λ none. omega (arith, none, some)) all)

pub only_idle : (a : AigParts) (invariant : List Clause) (claimed : List ℕ) → IsClaim a invariant claimed
    → HaveLiterals invariant
    → list_any is_empty (obligation_of a invariant claimed).clauses ≡ true → IsIdle a invariant claimed
unfolding obligation_of
only_idle a invariant claimed claim some is = idle
  where
    each : All (λ lits. ¬ (AllZero lits)) (before_part a invariant ++ graph_part a invariant claimed
        ++ broken_part a invariant claimed)
    each =
        all_rows (before_part a invariant ++ graph_part a invariant claimed) (broken_part a invariant claimed)
        (all_rows (before_part a invariant) (graph_part a invariant claimed)
        (all_before (sum (input_word_widths a.inputs)) (sum (latch_widths a.latches)) invariant some claim.literals)
        (all_gates (needed_in a invariant claimed) (1 + sources a) a.gates (omega arith)))
        (every_broken (next_lits a.latches) (1 + top_of a invariant claimed) invariant)

    parts : (list_any is_empty (flat_map folded (before_part a invariant ++ graph_part a invariant claimed
        ++ broken_part a invariant claimed))
        || list_any is_empty (flat_map folded ((claimed_lits a.outputs claimed
        ++ broken_row a invariant claimed) ∷ []))) ≡ true
    parts =
        sym (ap (list_any is_empty) (flat_map-append folded (before_part a invariant ++ graph_part a invariant claimed
        ++ broken_part a invariant claimed) ((claimed_lits a.outputs claimed
        ++ broken_row a invariant claimed) ∷ []))
        ∙ list_any-append is_empty (flat_map folded (before_part a invariant ++ graph_part a invariant claimed
        ++ broken_part a invariant claimed))
        (flat_map folded ((claimed_lits a.outputs claimed ++ broken_row a invariant claimed) ∷ [])))
        ∙ is

    zeros : AllZero (claimed_lits a.outputs claimed ++ broken_row a invariant claimed)
    zeros =
        elim (or_cases (list_any is_empty (flat_map folded (before_part a invariant ++ graph_part a invariant claimed
        ++ broken_part a invariant claimed)))
        (list_any is_empty (flat_map folded ((claimed_lits a.outputs claimed ++ broken_row a invariant claimed) ∷ [])))
        parts) [
          | inl early ↦ absurd (true≢false (sym early
              ∙ none_empty (before_part a invariant ++ graph_part a invariant claimed
              ++ broken_part a invariant claimed) each))
          | inr late ↦
              folded_empty (claimed_lits a.outputs claimed ++ broken_row a invariant claimed)
              (sym (ap (list_any is_empty)
              (append-nil (folded (claimed_lits a.outputs claimed ++ broken_row a invariant claimed)))) ∙ late)
        ]

    none : invariant ≡ []
    none =
        no_clauses (1 + top_of a invariant claimed) invariant (omega arith)
        (all_right (λ (lit : ℕ). lit ≡ 0) (claimed_lits a.outputs claimed) (broken_row a invariant claimed) zeros)

    idle : IsIdle a invariant claimed
    idle = record {
      outputs = all_left (λ (lit : ℕ). lit ≡ 0) (claimed_lits a.outputs claimed) (broken_row a invariant claimed) zeros;
      clauses = subst (λ (cs : List Clause). All
          (λ (c : Clause). list_any (λ (l : Literal). eqb (after_step (next_lits a.latches) l) 1) c
          ≡ true) cs) (sym none)
          (All-nil (λ (c : Clause). list_any (λ (l : Literal). eqb (after_step (next_lits a.latches) l) 1) c ≡ true));
    }
