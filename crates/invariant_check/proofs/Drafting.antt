-- Clauses that go to a formula one after another.
use Rattle.std.proofs.Common.{◌≡◌, ◌≢◌, ℕ, suc, ◌+◌, ◌-◌, ◌/◌, ◌<◌, ◌≤◌, Bool, true, false, not, cond, eqb, List, [], ◌∷◌, ◌++◌, length, map, filter, drop, get_or, flat_map, refl, sym, ap, ◌∙◌, arith, append_assoc, append-nil}
use Rattle.std.specs.List.{All, list_any}
use Rattle.std.proofs.lemmas.Bool.{eqb-false, not-false, not-true, or_parts}
use Rattle.std.proofs.lemmas.List.{drop_all, drop_more}
use Rattle.std.proofs.lemmas.List.Elements.{All-cons, All-head, All-nil, All-tail}
use Rattle.clause_check.specs.Clauses.{Clause, IsLiteral}
use Rattle.clause_check.specs.declared.literal.Literal.{Literal}
use Rattle.aig_blast.specs.Graphs.{negation}
use Rattle.aig_blast.specs.declared.gate.Gate.{Gate}
use Rattle.invariant_check.specs.Cones.{is_needed}
use Rattle.invariant_check.proofs.Folding.{half-signed}
use Rattle.invariant_check.specs.Obligations.{after_step, all_broken_clauses, before_step, broken_clauses, broken_lits, folded, gate_clauses, graph_clauses, literal_of, negated, plain}

-- ---- one clause

pub folded_open : (lits : List ℕ) (open' : Bool) → open' ≡ not (list_any (λ lit. eqb lit 1) lits) → open' ≡ true
    → folded lits ≡ map literal_of (filter (λ lit. not (eqb lit 0)) lits) ∷ []
folded_open lits open' is so =
    ap (λ (t : Bool). cond t [] (map literal_of (filter (λ lit. not (eqb lit 0)) lits) ∷ []))
    (not-true (list_any (λ lit. eqb lit 1) lits) (sym is ∙ so))

pub folded_closed : (lits : List ℕ) (open' : Bool) → open' ≡ not (list_any (λ lit. eqb lit 1) lits) → open' ≡ false
    → folded lits ≡ []
folded_closed lits open' is so =
    ap (λ (t : Bool). cond t [] (map literal_of (filter (λ lit. not (eqb lit 0)) lits) ∷ []))
    (not-false (list_any (λ lit. eqb lit 1) lits) (sym is ∙ so))

-- literals that are no constants are of variables
pub are_literals : (variables : ℕ) (lits : List ℕ) → list_any (λ lit. eqb lit 1) lits ≡ false
    → All (λ lit. lit / 2 ≤ variables) lits
    → All (IsLiteral variables) (map literal_of (filter (λ lit. not (eqb lit 0)) lits))
are_literals variables [] none within = All-nil (IsLiteral variables)
are_literals variables (lit ∷ lits) none within =
    let parts = or_parts (eqb lit 1) (list_any (λ n. eqb n 1) lits) none in
    by parts.0 (All-head (λ (n : ℕ). n / 2 ≤ variables) lit lits within)
    (are_literals variables lits parts.1 (All-tail (λ (n : ℕ). n / 2 ≤ variables) lit lits within)) (eqb lit 0) refl
  where
    by : eqb lit 1 ≡ false → lit / 2 ≤ variables
        → All (IsLiteral variables) (map literal_of (filter (λ n. not (eqb n 0)) lits)) → (t : Bool) → eqb lit 0 ≡ t
        → All (IsLiteral variables)
        (map literal_of (cond (not t) (lit ∷ filter (λ n. not (eqb n 0)) lits) (filter (λ n. not (eqb n 0)) lits)))
    by front own rest true is = rest
    by front own rest false is =
        let other : lit ≢ 0 = eqb-false lit 0 is in
        let different : lit ≢ 1 = eqb-false lit 1 front in
        let mine : IsLiteral variables (literal_of lit) = record
        { some = omega (arith, other, different); within = own } in
        All-cons (IsLiteral variables) (literal_of lit) (map literal_of (filter (λ n. not (eqb n 0)) lits)) mine rest

-- one clause, and those that are left
pub left_step : {X : Type 0} (now new own rest whole : List X) → new ≡ now ++ own → now ++ (own ++ rest) ≡ whole
    → new ++ rest ≡ whole
left_step {X} now new own rest whole is left = ap (λ (xs : List X). xs ++ rest) is ∙ append_assoc now own rest ∙ left

pub flat_map-append : {X Y : Type 0} (f : X → List Y) (xs ys : List X) → flat_map f (xs ++ ys)
    ≡ flat_map f xs ++ flat_map f ys
flat_map-append f [] ys = refl
flat_map-append {X} {Y} f (x ∷ xs) ys = ap (λ (zs : List Y). f x ++ zs) (flat_map-append f xs ys)
    ∙ sym (append_assoc (f x) (flat_map f xs) (flat_map f ys))

-- ---- gates

gates_first : (needed : List Bool) (variable next k : ℕ) (gates : List Gate) (d : Gate) → k < length gates → next
    ≡ variable + 1
    → flat_map folded (graph_clauses needed variable (drop k gates))
    ≡ flat_map folded (cond (is_needed needed variable) (gate_clauses variable (get_or gates k d)) [])
    ++ flat_map folded (graph_clauses needed next (drop (k + 1) gates))
gates_first needed variable next k gates d within more =
    let gate : Gate = get_or gates k d in
    ap (λ (gs : List Gate). flat_map folded (graph_clauses needed variable gs)) (drop_more gates k d within)
    ∙ ap (λ (n : ℕ). flat_map folded (cond (is_needed needed variable) (gate_clauses variable gate) []
    ++ graph_clauses needed n (drop (k + 1) gates))) (sym more)
    ∙ flat_map-append folded (cond (is_needed needed variable) (gate_clauses variable gate) [])
    (graph_clauses needed next (drop (k + 1) gates))

pub gate_pushed : (needed : List Bool) (sources k : ℕ) (gates : List Gate) (d : Gate) (now new whole : List Clause)
    → k < length gates
    → new ≡ now ++ flat_map folded
    (cond (is_needed needed (1 + sources + k)) (gate_clauses (1 + sources + k) (get_or gates k d)) [])
    → now ++ flat_map folded (graph_clauses needed (1 + sources + k) (drop k gates)) ≡ whole
    → new ++ flat_map folded (graph_clauses needed (1 + sources + (k + 1)) (drop (k + 1) gates)) ≡ whole
gate_pushed needed sources k gates d now new whole within made left =
    let variable : ℕ = 1 + sources + k in
    let rest : List Clause = flat_map folded (graph_clauses needed (1 + sources + (k + 1)) (drop (k + 1) gates)) in
    left_step now new (flat_map folded (cond (is_needed needed variable) (gate_clauses variable (get_or gates k d)) []))
    rest whole made
    (ap (λ (cs : List Clause). now
    ++ cs) (sym (gates_first needed variable (1 + sources + (k + 1)) k gates d within (omega arith))) ∙ left)

pub no_gates_left : (needed : List Bool) (variable k : ℕ) (gates : List Gate) (now whole : List Clause)
    → length gates ≤ k
    → now ++ flat_map folded (graph_clauses needed variable (drop k gates)) ≡ whole → now ≡ whole
no_gates_left needed variable k gates now whole over left =
    sym (append-nil now) ∙ sym (ap (λ (gs : List Gate). now
    ++ flat_map folded (graph_clauses needed variable gs)) (drop_all k gates over)) ∙ left

-- ---- broken clauses

pub broken_pushed : (nexts : List ℕ) (variable k : ℕ) (clause : Clause) (d : Literal) (now new whole : List Clause)
    → k < length clause
    → new ≡ now ++ folded (negated variable ∷ negation (after_step nexts (get_or clause k d)) ∷ [])
    → now ++ flat_map folded (broken_clauses nexts variable (drop k clause)) ≡ whole
    → new ++ flat_map folded (broken_clauses nexts variable (drop (k + 1) clause)) ≡ whole
broken_pushed nexts variable k clause d now new whole within made left =
    let own : List Clause = folded (negated variable ∷ negation (after_step nexts (get_or clause k d)) ∷ []) in
    let rest : List Clause = flat_map folded (broken_clauses nexts variable (drop (k + 1) clause)) in
    left_step now new own rest whole made
    (sym (ap (λ (ls : Clause). now ++ flat_map folded (broken_clauses nexts variable ls)) (drop_more clause k d within))
    ∙ left)

pub none_left : (nexts : List ℕ) (variable k : ℕ) (clause : Clause) (now whole : List Clause) → length clause ≤ k
    → now ++ flat_map folded (broken_clauses nexts variable (drop k clause)) ≡ whole → now ≡ whole
none_left nexts variable k clause now whole over left =
    sym (append-nil now) ∙ sym (ap (λ (ls : Clause). now
    ++ flat_map folded (broken_clauses nexts variable ls)) (drop_all k clause over)) ∙ left

-- clause by clause
pub all_broken_pushed : (nexts : List ℕ) (variable : ℕ) (clauses rest : List Clause) (clause : Clause)
    (now new whole : List Clause) → clauses ≡ clause ∷ rest
    → new ≡ now ++ flat_map folded (broken_clauses nexts variable clause)
    → now ++ flat_map folded (all_broken_clauses nexts variable clauses) ≡ whole
    → new ++ flat_map folded (all_broken_clauses nexts (variable + 1) rest) ≡ whole
all_broken_pushed nexts variable clauses rest clause now new whole cut made left =
    left_step now new (flat_map folded (broken_clauses nexts variable clause))
    (flat_map folded (all_broken_clauses nexts (variable + 1) rest)) whole made
    (ap (λ (cs : List Clause). now
    ++ cs) (sym (flat_map-append folded (broken_clauses nexts variable clause)
    (all_broken_clauses nexts (variable + 1) rest)))
    ∙ sym (ap (λ (cs : List Clause). now ++ flat_map folded (all_broken_clauses nexts variable cs)) cut) ∙ left)

-- a clause of clauses that are mapped
pub mapped_pushed : (f : Clause → List ℕ) (clauses rest : List Clause) (clause : Clause) (now new whole : List Clause)
    → clauses ≡ clause ∷ rest
    → new ≡ now ++ folded (f clause)
    → now ++ flat_map folded (map f clauses) ≡ whole
    → new ++ flat_map folded (map f rest) ≡ whole
mapped_pushed f clauses rest clause now new whole cut made left =
    left_step now new (folded (f clause)) (flat_map folded (map f rest)) whole made
    (sym (ap (λ (cs : List Clause). now ++ flat_map folded (map f cs)) cut) ∙ left)

pub ends : {X Y : Type 0} (f : List X → List Y) (xs : List X) (now whole : List Y) → xs ≡ [] → f [] ≡ [] → now ++ f xs
    ≡ whole → now ≡ whole
ends {X} {Y} f xs now whole none empty left = sym (append-nil now)
    ∙ sym (ap (λ (ys : List Y). now ++ ys) (ap f none ∙ empty)) ∙ left

-- ---- the literals of broken clauses

pub broken_lits_step : (variable k count : ℕ) (now new whole : List ℕ) → k < count → new
    ≡ now ++ plain (variable + k) ∷ []
    → now ++ broken_lits (variable + k) (count - k) ≡ whole → new ++ broken_lits (variable + (k + 1)) (count - (k + 1))
    ≡ whole
broken_lits_step variable k count now new whole within made left =
    let first : count - k ≡ suc (count - (k + 1)) = omega (arith, within) in
    let next : variable + k + 1 ≡ variable + (k + 1) = omega arith in
    left_step now new (plain (variable + k) ∷ []) (broken_lits (variable + (k + 1)) (count - (k + 1))) whole made
    (ap (λ n. now ++ plain (variable + k) ∷ broken_lits n (count - (k + 1))) (sym next)
    ∙ sym (ap (λ n. now ++ broken_lits (variable + k) n) first) ∙ left)

pub broken_lits_end : (variable k count : ℕ) (now whole : List ℕ) → count ≤ k
    → now ++ broken_lits (variable + k) (count - k) ≡ whole → now ≡ whole
broken_lits_end variable k count now whole over left =
    let none : count - k ≡ 0 = omega (arith, over) in
    sym (append-nil now) ∙ sym (ap (λ n. now ++ broken_lits (variable + k) n) none) ∙ left

-- the literals of a clause before the step are of variables
pub before_within : (inputs variables : ℕ) (clause : Clause)
    → All (λ literal. inputs + literal.variable ≤ variables) clause
    → All (λ lit. lit / 2 ≤ variables) (map (before_step inputs) clause)
before_within inputs variables [] within = All-nil (λ (lit : ℕ). lit / 2 ≤ variables)
before_within inputs variables (literal ∷ clause) within =
    let own : inputs + literal.variable ≤ variables = All-head (λ (l : Literal). inputs + l.variable ≤ variables)
    literal clause within in
    All-cons (λ (lit : ℕ). lit / 2 ≤ variables) (before_step inputs literal) (map (before_step inputs) clause)
    (omega (arith, half-signed literal.is_negated (plain (inputs + literal.variable)), own))
    (before_within inputs variables clause
    (All-tail (λ (l : Literal). inputs + l.variable ≤ variables) literal clause within))
