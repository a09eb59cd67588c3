-- The clauses of a graph: an assignment under which they hold has the values of the graph, and the values of the graph
-- make them hold (Tseitin, 1968).
use Rattle.std.proofs.Common.{◌≡◌, ℕ, ◌+◌, ◌/◌, ◌<◌, Bool, true, false, not, cond, ◌&&◌, ◌||◌, List, [], ◌∷◌, ◌++◌, length, get_or, refl, sym, ap, ap₂, ◌∙◌, arith, inl, inr, true≢false}
use Rattle.std.proofs.lemmas.Bool.{and_from, and_parts, cases_lt}
use Rattle.std.proofs.lemmas.List.{get_or_append_left, get_or_push, length_push}
use Rattle.std.proofs.lemmas.List.Folds.{list_all-append}
use Rattle.aig_blast.specs.Graphs.{gate_value, negation, values_after}
use Rattle.aig_blast.specs.declared.gate.Gate.{Gate}
use Rattle.aig_blast.proofs.Growing.{get_or-values_after, length-values_after}
use Rattle.invariant_check.specs.Cones.{is_needed}
use Rattle.invariant_check.specs.Obligations.{gate_clauses, graph_clauses}
use Rattle.invariant_check.proofs.Cones.{Closed, EachStands}
use Rattle.invariant_check.proofs.Folding.{all_hold, lit_true, negated-true, negation-true, plain-true, same_lit, some_true}

-- the three clauses of a gate over truth values
abbrev pub three : Bool → Bool → Bool → Bool → Bool → Bool → Bool
three m a b y na nb = (m || (a || false)) && ((m || (b || false)) && ((y || (na || (nb || false))) && true))

three_say : (x a b : Bool) → three (not x) a b x (not a) (not b) ≡ true → x ≡ (a && b)
three_say true true true is = refl
three_say true true false is = absurd (true≢false (sym is))
three_say true false true is = absurd (true≢false (sym is))
three_say true false false is = absurd (true≢false (sym is))
three_say false true true is = absurd (true≢false (sym is))
three_say false true false is = refl
three_say false false true is = refl
three_say false false false is = refl

three_hold : (a b : Bool) → three (not (a && b)) a b (a && b) (not a) (not b) ≡ true
three_hold true true = refl
three_hold true false = refl
three_hold false true = refl
three_hold false false = refl

gate_three : (g : ℕ → Bool) (v : ℕ) (gate : Gate) → all_hold g (gate_clauses v gate)
    ≡ three (not (g v)) (lit_true g gate.left) (lit_true g gate.right) (g v) (not (lit_true g gate.left))
    (not (lit_true g gate.right))
gate_three g v gate =
    let a : Bool = lit_true g gate.left in
    let b : Bool = lit_true g gate.right in
    ap₂ (λ (m y : Bool). three m a b y (lit_true g (negation gate.left)) (lit_true g (negation gate.right)))
    (negated-true g v) (plain-true g v)
    ∙ ap₂ (λ (na nb : Bool). three (not (g v)) a b (g v) na nb) (negation-true g gate.left) (negation-true g gate.right)

gate_says : (g : ℕ → Bool) (v : ℕ) (gate : Gate) → all_hold g (gate_clauses v gate) ≡ true → g v
    ≡ (lit_true g gate.left && lit_true g gate.right)
gate_says g v gate holds = three_say (g v) (lit_true g gate.left) (lit_true g gate.right) (sym (gate_three g v gate)
    ∙ holds)

gate_holds : (g : ℕ → Bool) (v : ℕ) (gate : Gate) → g v ≡ (lit_true g gate.left && lit_true g gate.right)
    → all_hold g (gate_clauses v gate) ≡ true
gate_holds g v gate same =
    let a : Bool = lit_true g gate.left in
    let b : Bool = lit_true g gate.right in
    gate_three g v gate ∙ ap (λ (x : Bool). three (not x) a b x (not a) (not b)) same ∙ three_hold a b

-- an assignment has the values of variables that are needed
abbrev pub Agrees : (ℕ → Bool) → List Bool → List Bool → Type 0
Agrees g needed values = (v : ℕ) → v < length values → is_needed needed v ≡ true → g v ≡ get_or values v false

-- the clauses of the first gate and of the others
first_clauses : (g : ℕ → Bool) (needed : List Bool) (v : ℕ) (gate : Gate) (gates : List Gate)
    → all_hold g (graph_clauses needed v (gate ∷ gates))
    ≡ (all_hold g (cond (is_needed needed v) (gate_clauses v gate) []) && all_hold g
    (graph_clauses needed (v + 1) gates))
first_clauses g needed v gate gates =
    list_all-append (some_true g) (cond (is_needed needed v) (gate_clauses v gate) [])
    (graph_clauses needed (v + 1) gates)

-- operands have the values of the graph
operands : (g : ℕ → Bool) (needed before : List Bool) (gate : Gate) → gate.left / 2 < length before
    → gate.right / 2 < length before
    → (is_needed needed (gate.left / 2) ≡ true) × (is_needed needed (gate.right / 2) ≡ true) → Agrees g needed before
    → (lit_true g gate.left && lit_true g gate.right) ≡ gate_value before gate
operands g needed before gate left right needs agrees =
    ap₂ (λ a b. a && b) (same_lit g before gate.left (agrees (gate.left / 2) left needs.0))
    (same_lit g before gate.right (agrees (gate.right / 2) right needs.1))

agrees-more : (g : ℕ → Bool) (needed before : List Bool) (x : Bool) → Agrees g needed before
    → (is_needed needed (length before) ≡ true → g (length before) ≡ x) → Agrees g needed (before ++ x ∷ [])
agrees-more g needed before x agrees own = λ v within needs.
    elim (cases_lt v (length before)) [
      | inl less ↦ agrees v less needs ∙ sym (get_or_append_left before (x ∷ []) false v less)
      | inr most ↦
          let last : v ≡ length before = omega (arith, within, most, length_push before x) in
          ap g last ∙ own (sym (ap (is_needed needed) last) ∙ needs) ∙ sym (get_or_push before x false v (sym last))
    ]

-- where the clauses hold, an assignment that has the values of the first variables has those of all
pub follows_graph : (g : ℕ → Bool) (needed before : List Bool) (v : ℕ) (gates : List Gate) → length before ≡ v
    → EachStands v gates → Closed needed v gates
    → Agrees g needed before → all_hold g (graph_clauses needed v gates) ≡ true
    → Agrees g needed (values_after before gates)
follows_graph g needed before v [] count stand closed agrees holds = agrees
follows_graph g needed before v (gate ∷ gates) count stand closed agrees holds =
    follows_graph g needed (before
    ++ gate_value before gate ∷ []) (v + 1) gates
    (omega (arith, length_push before (gate_value before gate), count)) stand.2 closed.1
    (agrees-more g needed before (gate_value before gate) agrees own) parts.1
  where
    parts : (all_hold g (cond (is_needed needed v) (gate_clauses v gate) []) ≡ true)
        × (all_hold g (graph_clauses needed (v + 1) gates) ≡ true)
    parts =
        and_parts (all_hold g (cond (is_needed needed v) (gate_clauses v gate) []))
        (all_hold g (graph_clauses needed (v + 1) gates))
        (sym (first_clauses g needed v gate gates) ∙ holds)

    own : is_needed needed (length before) ≡ true → g (length before) ≡ gate_value before gate
    own needs =
        let here : is_needed needed v ≡ true = sym (ap (is_needed needed) count) ∙ needs in
        ap g count ∙ gate_says g v gate (sym (ap (λ (t : Bool). all_hold g (cond t (gate_clauses v gate) [])) here)
        ∙ parts.0)
        ∙ operands g needed before gate (omega (arith, stand.0, count)) (omega (arith, stand.1, count)) (closed.0 here)
        agrees

-- an assignment that has the values of all variables makes the clauses hold
pub graph_holds : (g : ℕ → Bool) (needed before : List Bool) (v : ℕ) (gates : List Gate) → length before ≡ v
    → EachStands v gates → Closed needed v gates
    → Agrees g needed (values_after before gates) → all_hold g (graph_clauses needed v gates) ≡ true
graph_holds g needed before v [] count stand closed agrees = refl
graph_holds g needed before v (gate ∷ gates) count stand closed agrees =
    first_clauses g needed v gate gates
    ∙ and_from (all_hold g (cond (is_needed needed v) (gate_clauses v gate) []))
    (all_hold g (graph_clauses needed (v + 1) gates)) (by (is_needed needed v) refl)
    (graph_holds g needed more (v + 1) gates (omega (arith, long, count)) stand.2 closed.1 agrees)
  where
    more : List Bool
    more = before ++ gate_value before gate ∷ []

    long : length (before ++ gate_value before gate ∷ []) ≡ length before + 1
    long = length_push before (gate_value before gate)

    all : length (values_after (before ++ gate_value before gate ∷ []) gates)
        ≡ length (before ++ gate_value before gate ∷ []) + length gates
    all = length-values_after (before ++ gate_value before gate ∷ []) gates

    -- at the variables before and at the gate itself
    at : (u : ℕ) → u < length (before ++ gate_value before gate ∷ []) → is_needed needed u ≡ true → g u
        ≡ get_or (before ++ gate_value before gate ∷ []) u false
    at u within needs =
        agrees u (omega (arith, within, all)) needs
        ∙ get_or-values_after (before ++ gate_value before gate ∷ []) gates u within

    below : Agrees g needed before
    below u within needs =
        at u (omega (arith, within, long)) needs
        ∙ get_or_append_left before (gate_value before gate ∷ []) false u within

    by : (t : Bool) → is_needed needed v ≡ t → all_hold g (cond t (gate_clauses v gate) []) ≡ true
    by true needs =
        gate_holds g v gate
        (at v (omega (arith, long, count)) needs ∙ get_or_push before (gate_value before gate) false v count
        ∙ sym (operands g needed before gate (omega (arith, stand.0, count)) (omega (arith, stand.1, count))
        (closed.0 needs) below))
    by false none = refl
