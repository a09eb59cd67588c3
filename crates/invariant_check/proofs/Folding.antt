-- Clauses of literals of the graph, constants folded, are true where one of the literals is.
use Rattle.std.proofs.Common.{◌≡◌, ◌≢◌, ℕ, zero, suc, ◌+◌, ◌-◌, ◌*◌, ◌/◌, ◌%◌, ◌≤◌, Bool, true, false, not, cond, ◌&&◌, ◌||◌, eqb, List, [], ◌∷◌, map, get_or, refl, sym, ap, ap₂, ◌∙◌, arith, true≢false}
use Rattle.std.specs.List.{filter, flat_map, list_all, list_any}
use Rattle.std.proofs.lemmas.Bool.{eqb-true, eqb-false, or_parts, or_right}
use Rattle.std.proofs.lemmas.List.Folds.{list_all-append}
use Rattle.clause_check.specs.Clauses.{clause_value, literal_value}
use Rattle.aig_blast.specs.Graphs.{lit_value, negation, xor}
use Rattle.invariant_check.specs.Obligations.{folded, literal_of, negated, plain, signed}
use Rattle.invariant_check.proofs.Lists.{and-true, not-not}

-- variable 0 is false
abbrev pub grounded : (ℕ → Bool) → ℕ → Bool
grounded assignment zero = false
grounded assignment (suc v) = assignment (suc v)

-- a literal of the graph is true
abbrev pub lit_true : (ℕ → Bool) → ℕ → Bool
lit_true g lit = xor (eqb (lit % 2) 1) (g (lit / 2))

-- one of some literals is, and one of each row of literals
abbrev pub some_true : (ℕ → Bool) → List ℕ → Bool
some_true g lits = list_any (lit_true g) lits

abbrev pub all_hold : (ℕ → Bool) → List (List ℕ) → Bool
all_hold g clauses = list_all (some_true g) clauses

grounded-some : (assignment : ℕ → Bool) (v : ℕ) → 1 ≤ v → grounded assignment v ≡ assignment v
grounded-some assignment zero some = absurd (omega (arith, some))
grounded-some assignment (suc v) some = refl

pub grounded-same : (assignment : ℕ → Bool) (v : ℕ) → assignment 0 ≡ false → grounded assignment v ≡ assignment v
grounded-same assignment zero none = sym none
grounded-same assignment (suc v) none = refl

sign_value : (b x : Bool) → cond b (not x) x ≡ xor b x
sign_value true x = refl
sign_value false x = refl

-- a literal that is no constant
literal-lit : (assignment : ℕ → Bool) (lit : ℕ) → lit ≢ 0 → lit ≢ 1 → literal_value assignment (literal_of lit)
    ≡ lit_true (grounded assignment) lit
literal-lit assignment lit other different =
    let some : 1 ≤ lit / 2 = omega (arith, other, different) in
    sign_value (eqb (lit % 2) 1) (assignment (lit / 2))
    ∙ ap (λ x. xor (eqb (lit % 2) 1) x) (sym (grounded-some assignment (lit / 2) some))

-- no literal is the constant true
kept_value : (assignment : ℕ → Bool) (lits : List ℕ) → list_any (λ lit. eqb lit 1) lits ≡ false
    → clause_value assignment (map literal_of (filter (λ lit. not (eqb lit 0)) lits))
    ≡ some_true (grounded assignment) lits
kept_value assignment [] none = refl
kept_value assignment (lit ∷ lits) none =
    let parts = or_parts (eqb lit 1) (list_any (λ n. eqb n 1) lits) none in
    by parts.0 (kept_value assignment lits parts.1) (eqb lit 0) refl
  where
    by : eqb lit 1 ≡ false
        → clause_value assignment (map literal_of (filter (λ n. not (eqb n 0)) lits))
        ≡ some_true (grounded assignment) lits
        → (t : Bool) → eqb lit 0 ≡ t
        → clause_value assignment
        (map literal_of (cond (not t) (lit ∷ filter (λ n. not (eqb n 0)) lits) (filter (λ n. not (eqb n 0)) lits)))
        ≡ (lit_true (grounded assignment) lit || some_true (grounded assignment) lits)
    by front rest true is = rest
        ∙ sym (ap (λ n. lit_true (grounded assignment) n || some_true (grounded assignment) lits) (eqb-true lit 0 is))
    by front rest false is = ap₂ (λ a b. a || b)
        (literal-lit assignment lit (eqb-false lit 0 is) (eqb-false lit 1 front)) rest

-- one literal is the constant true
true_value : (assignment : ℕ → Bool) (lits : List ℕ) → list_any (λ lit. eqb lit 1) lits ≡ true
    → some_true (grounded assignment) lits ≡ true
true_value assignment [] is = absurd (true≢false (sym is))
true_value assignment (lit ∷ lits) is = by (λ found. true_value assignment lits found) (eqb lit 1) refl is
  where
    by : (list_any (λ n. eqb n 1) lits ≡ true → some_true (grounded assignment) lits ≡ true) → (t : Bool) → eqb lit 1
        ≡ t
        → (t || list_any (λ n. eqb n 1) lits) ≡ true
        → (lit_true (grounded assignment) lit || some_true (grounded assignment) lits) ≡ true
    by later true one found = ap (λ n. lit_true (grounded assignment) n || some_true (grounded assignment) lits)
        (eqb-true lit 1 one)
    by later false other found = or_right (lit_true (grounded assignment) lit) (some_true (grounded assignment) lits)
        (later found)

folded-value : (assignment : ℕ → Bool) (lits : List ℕ) → list_all (clause_value assignment) (folded lits)
    ≡ some_true (grounded assignment) lits
folded-value assignment lits = by (list_any (λ lit. eqb lit 1) lits) refl
  where
    by : (t : Bool) → list_any (λ lit. eqb lit 1) lits ≡ t
        → list_all (clause_value assignment) (cond t [] (map literal_of (filter (λ lit. not (eqb lit 0)) lits) ∷ []))
        ≡ some_true (grounded assignment) lits
    by true is = sym (true_value assignment lits is)
    by false none =
        and-true (clause_value assignment (map literal_of (filter (λ lit. not (eqb lit 0)) lits)))
        ∙ kept_value assignment lits none

-- all clauses are true where one literal of each row is
pub all_folded : (assignment : ℕ → Bool) (clauses : List (List ℕ))
    → list_all (clause_value assignment) (flat_map folded clauses) ≡ all_hold (grounded assignment) clauses
all_folded assignment [] = refl
all_folded assignment (lits ∷ clauses) =
    list_all-append (clause_value assignment) (folded lits) (flat_map folded clauses)
    ∙ ap₂ (λ a b. a && b) (folded-value assignment lits) (all_folded assignment clauses)

-- ---- literals

pub plain-true : (g : ℕ → Bool) (v : ℕ) → lit_true g (plain v) ≡ g v
plain-true g v =
    let even : 2 * v % 2 ≡ 0 = omega arith in
    let half : 2 * v / 2 ≡ v = omega arith in
    ap₂ (λ r i. xor (eqb r 1) (g i)) even half

pub negated-true : (g : ℕ → Bool) (v : ℕ) → lit_true g (negated v) ≡ not (g v)
negated-true g v =
    let odd : (2 * v + 1) % 2 ≡ 1 = omega arith in
    let half : (2 * v + 1) / 2 ≡ v = omega arith in
    ap₂ (λ r i. xor (eqb r 1) (g i)) odd half

pub negation-true : (g : ℕ → Bool) (lit : ℕ) → lit_true g (negation lit) ≡ not (lit_true g lit)
unfolding negation
negation-true g lit = by (eqb (lit % 2) 1) refl
  where
    by : (t : Bool) → eqb (lit % 2) 1 ≡ t → lit_true g (cond t (lit - 1) (lit + 1)) ≡ not (xor t (g (lit / 2)))
    by true is =
        let one : lit % 2 ≡ 1 = eqb-true (lit % 2) 1 is in
        let even : (lit - 1) % 2 ≡ 0 = omega (arith, one) in
        let half : (lit - 1) / 2 ≡ lit / 2 = omega (arith, one) in
        ap₂ (λ r i. xor (eqb r 1) (g i)) even half ∙ sym (not-not (g (lit / 2)))
    by false is =
        let other : lit % 2 ≢ 1 = eqb-false (lit % 2) 1 is in
        let odd : (lit + 1) % 2 ≡ 1 = omega (arith, other) in
        let half : (lit + 1) / 2 ≡ lit / 2 = omega (arith, other) in
        ap₂ (λ r i. xor (eqb r 1) (g i)) odd half

pub half-negation : (lit : ℕ) → negation lit / 2 ≡ lit / 2
unfolding negation
half-negation lit = by (eqb (lit % 2) 1) refl
  where
    by : (t : Bool) → eqb (lit % 2) 1 ≡ t → cond t (lit - 1) (lit + 1) / 2 ≡ lit / 2
    by true is = let one : lit % 2 ≡ 1 = eqb-true (lit % 2) 1 is in omega (arith, one)
    by false is = let other : lit % 2 ≢ 1 = eqb-false (lit % 2) 1 is in omega (arith, other)

pub signed-true : (g : ℕ → Bool) (b : Bool) (lit : ℕ) → lit_true g (signed b lit)
    ≡ cond b (not (lit_true g lit)) (lit_true g lit)
signed-true g true lit = negation-true g lit
signed-true g false lit = refl

pub half-signed : (b : Bool) (lit : ℕ) → signed b lit / 2 ≡ lit / 2
half-signed true lit = half-negation lit
half-signed false lit = refl

-- where an assignment has the value of a literal's variable, it has that of the literal
pub same_lit : (g : ℕ → Bool) (values : List Bool) (lit : ℕ) → g (lit / 2) ≡ get_or values (lit / 2) false
    → lit_true g lit ≡ lit_value values lit
same_lit g values lit same = ap (λ x. xor (eqb (lit % 2) 1) x) same
