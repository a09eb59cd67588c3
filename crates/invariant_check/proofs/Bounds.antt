-- The literals of an obligation are of its variables.
use Rattle.std.proofs.Common.{◌≡◌, ℕ, zero, suc, ◌+◌, ◌/◌, ◌<◌, ◌≤◌, true, List, [], ◌∷◌, ◌++◌, length, map, take, drop, sym, ap, ◌∙◌, subst, arith, take-append-drop, sum}
use Rattle.std.specs.List.{All}
use Rattle.std.proofs.lemmas.List.{length-drop, nil_from_length}
use Rattle.std.proofs.lemmas.List.Elements.{All-cons, All-nil, All-weaker}
use Rattle.std.proofs.lemmas.List.Sums.{sum_by-cons}
use Rattle.clause_check.specs.Clauses.{Clause, IsLiteral}
use Rattle.clause_check.specs.Flat.{clauses_by}
use Rattle.clause_check.specs.declared.literal.Literal.{Literal}
use Rattle.aig_blast.specs.Aigs.{AigParts, IsAig, sources, variables}
use Rattle.invariant_check.specs.Cones.{is_needed}
use Rattle.invariant_check.specs.inner.Kept.{IsClaim}
use Rattle.invariant_check.specs.Obligations.{broken_lits, claimed_lits, literals_in, needed_in, needed_lits, next_lit, next_lits, obligation_of, plain, top_of}
use Rattle.invariant_check.proofs.Breaking.{below_top, needs, sources_below}
use Rattle.invariant_check.proofs.Cones.{length-cone}
use Rattle.invariant_check.proofs.Lists.{all_flat, all_left, all_map, all_right, within_flags}

-- the literals of clauses in one list
pub literals_by : (literals : List Literal) (lengths : List ℕ) → sum lengths ≡ length literals
    → literals_in (clauses_by literals lengths) ≡ literals
literals_by literals [] whole = sym (nil_from_length literals (sym whole))
literals_by literals (len ∷ lengths) whole =
    let parts = sum_by-cons (λ (n : ℕ). n) len lengths in
    ap (λ (ls : List Literal). take len literals
    ++ ls) (literals_by (drop len literals) lengths (omega (arith, length-drop len literals, whole, parts)))
    ∙ take-append-drop len literals

pub clauses_within : (n : ℕ) (literals : List Literal) (lengths : List ℕ) (clauses : List Clause) → sum lengths
    ≡ length literals → clauses_by literals lengths ≡ clauses
    → All (IsLiteral n) literals → All (All (IsLiteral n)) clauses
clauses_within n literals lengths clauses whole same all =
    all_flat (IsLiteral n) clauses
    (subst (λ (ls : List Literal). All (IsLiteral n) ls) (sym (literals_by literals lengths whole)
    ∙ ap literals_in same) all)

pub broken_within : (variable count bound : ℕ) → variable + count ≤ 1 + bound
    → All (λ lit. lit / 2 ≤ bound) (broken_lits variable count)
broken_within variable zero bound few = All-nil (λ (lit : ℕ). lit / 2 ≤ bound)
broken_within variable (suc count) bound few =
    All-cons (λ (lit : ℕ). lit / 2 ≤ bound) (plain variable) (broken_lits (variable + 1) count) (omega (arith, few))
    (broken_within (variable + 1) count bound (omega (arith, few)))

module _ (a : AigParts) (invariant : List Clause) (claimed : List ℕ) (valid : IsAig a)
    (claim : IsClaim a invariant claimed) where
  count_needed : length (needed_in a invariant claimed) ≡ 1 + variables a
  count_needed = omega (arith, length-cone (sources a) a.gates (needed_lits a invariant claimed))

  -- a variable that is needed
  pub needed_bound : (v : ℕ) → is_needed (needed_in a invariant claimed) v ≡ true → v ≤ top_of a invariant claimed
  needed_bound v is =
      let within : v < length (needed_in a invariant claimed) = within_flags (needed_in a invariant claimed) v is in
      below_top a invariant claimed valid claim v (omega (arith, within, count_needed)) is

  lits_bound : All (λ lit. lit / 2 ≤ top_of a invariant claimed) (needed_lits a invariant claimed)
  lits_bound =
      All-weaker (λ (lit : ℕ). is_needed (needed_in a invariant claimed) (lit / 2)
      ≡ true) (λ (lit : ℕ). lit / 2 ≤ top_of a invariant claimed)
      (λ lit is. needed_bound (lit / 2) is) (needed_lits a invariant claimed) (needs a invariant claimed valid claim)

  pub claims_bound : All (λ lit. lit / 2 ≤ top_of a invariant claimed) (claimed_lits a.outputs claimed)
  claims_bound =
      all_left (λ (lit : ℕ). lit / 2 ≤ top_of a invariant claimed) (claimed_lits a.outputs claimed)
      (map (next_lit (next_lits a.latches)) (literals_in invariant)) lits_bound

  pub nexts_bound : All (λ literal. next_lit (next_lits a.latches) literal / 2 ≤ top_of a invariant claimed)
      (literals_in invariant)
  nexts_bound =
      all_map (λ (lit : ℕ). lit / 2 ≤ top_of a invariant claimed) (next_lit (next_lits a.latches))
      (literals_in invariant)
      (all_right (λ (lit : ℕ). lit / 2 ≤ top_of a invariant claimed) (claimed_lits a.outputs claimed)
      (map (next_lit (next_lits a.latches)) (literals_in invariant)) lits_bound)

  pub source_bound : (v : ℕ) → v ≤ sources a → v ≤ top_of a invariant claimed
  source_bound v within = omega (arith, within, sources_below a invariant claimed valid claim)

  -- the named variables are among all
  pub named_bound : sources a ≤ (obligation_of a invariant claimed).variables
  unfolding obligation_of
  named_bound = omega (arith, sources_below a invariant claimed valid claim)
