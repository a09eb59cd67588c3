-- A clause that follows by its hints is true wherever the clauses that are there are, and so a text that refutes a formula leaves
-- no assignment that satisfies it.
use Rattle.std.proofs.Common.{◌≡◌, ℕ, zero, suc, ◌+◌, Bool, true, false, not, cond, eqb, List, [], ◌∷◌, Option, Some, None, Result, Ok, Err, refl, sym, ap, ap₂, ◌∙◌, subst, true≢false}
use Rattle.std.specs.Bool.{beq}
use Rattle.std.specs.List.{filter, list_all, list_any, slice_get}
use Rattle.std.specs.Option.{is_some, option_map_or}
use Rattle.std.specs.Prelude.{nat_lt, ◌||◌}
use Rattle.std.proofs.lemmas.Bool.{and_parts as both, eqb-true, not-true}
use Rattle.kw_base.specs.Place.{capped}
use Rattle.kw_base.specs.Texts.{lines_of}
use Rattle.clause_check.specs.Clauses.{Assignment, Clause, Cnf, IsUnsatisfiable, Satisfies, clause_value, is_same, literal_value, negation}
use Rattle.clause_check.specs.Lines.{tokens_of}
use Rattle.clause_check.specs.Propagation.{Numbered, denied, follows_by_hints, is_false, is_true, left_by, left_of, propagates, refutes}
use Rattle.clause_check.specs.Refutations.{Progress, added, after_line, after_step, begin, dropped, fault_from, fault_in, fault_of, goes_on, is_empty, numbered, with_clause, without_clause}
use Rattle.clause_check.specs.Steps.{Step, skips, adds, drops, step_of}
use Rattle.clause_check.specs.declared.left.Left.{Left}
use Rattle.clause_check.specs.declared.left.Left.TheVariants as lefts
use Rattle.clause_check.specs.declared.literal.Literal.{Literal}

neither : (a b : Bool) → (a || b) ≡ false → (a ≡ false) × (b ≡ false)
neither true b h = absurd (true≢false h)
neither false b h = (refl, h)

beq-true : (a b : Bool) → beq a b ≡ true → a ≡ b
beq-true true true h = refl
beq-true true false h = absurd (true≢false (sym h))
beq-true false true h = absurd (true≢false (sym h))
beq-true false false h = refl

-- literals that pass the test are equal
pub same-equal : (a b : Literal) → is_same a b ≡ true → a ≡ b
same-equal a b same =
    let parts = both _ _ same in
    ap₂ (λ (variable : ℕ) (is_negated : Bool). let l : Literal = record { variable = variable; is_negated = is_negated } in l)
    (eqb-true a.variable b.variable parts.0) (beq-true a.is_negated b.is_negated parts.1)

cond-not : (n v : Bool) → cond (not n) (not v) v ≡ not (cond n (not v) v)
cond-not true true = refl
cond-not true false = refl
cond-not false v = refl

-- a negated literal has the other value
value-negation : (a : Assignment) (l : Literal) → literal_value a (negation l) ≡ not (literal_value a l)
value-negation a l = cond-not l.is_negated (a l.variable)

-- each literal of a partial assignment is true
AllTrue : Assignment → List Literal → Type 0
AllTrue a trues = (l : Literal) → is_true trues l ≡ true → literal_value a l ≡ true

all_true-nil : (a : Assignment) → AllTrue a []
unfolding AllTrue
all_true-nil a l h = absurd (true≢false (sym h))

all_true-cons : (a : Assignment) (m : Literal) (trues : List Literal) → literal_value a m ≡ true → AllTrue a trues → AllTrue a (m ∷ trues)
unfolding AllTrue
all_true-cons a m trues holds all l h = by (is_same l m) refl h
  where
    by : (t : Bool) → is_same l m ≡ t → (t || is_true trues l) ≡ true → literal_value a l ≡ true
    by true same h = ap (literal_value a) (same-equal l m same) ∙ holds
    by false differs h = all l h

-- a literal that is false by the partial assignment is false
false_is : (a : Assignment) (trues : List Literal) (l : Literal) → AllTrue a trues → is_false trues l ≡ true → literal_value a l ≡ false
unfolding AllTrue
false_is a trues l all is = not-true (literal_value a l) (sym (value-negation a l) ∙ all (negation l) is)

-- with a false clause denied, each literal of the partial assignment is true
Denied : Assignment → Option (List Literal) → Type 0
Denied a None = ⊥
Denied a (Some trues) = AllTrue a trues

denied-true : (a : Assignment) (trues : List Literal) (clause : Clause) → AllTrue a trues → clause_value a clause ≡ false → Denied a (denied trues clause)
unfolding Denied AllTrue
denied-true a trues [] all fails = all
denied-true a trues (l ∷ clause) all fails =
    let holds : literal_value a (negation l) ≡ true = value-negation a l ∙ ap not (neither _ _ fails).0 in
    by (denied-true a (negation l ∷ trues) clause (all_true-cons a (negation l) trues holds all) (neither _ _ fails).1) (is_true trues l) refl
  where
    by : Denied a (denied (negation l ∷ trues) clause) → (t : Bool) → is_true trues l ≡ t → Denied a (cond t None (denied (negation l ∷ trues) clause))
    by others true is = absurd (true≢false (sym (all l is) ∙ (neither _ _ fails).0))
    by others false is = others

-- what is left of a true clause is true
left_holds : (a : Assignment) (trues : List Literal) (clause : Clause) → AllTrue a trues → clause_value a clause ≡ true → clause_value a (filter (λ l. not (is_false trues l)) clause) ≡ true
left_holds a trues [] all holds = holds
left_holds a trues (l ∷ clause) all holds = by (left_holds a trues clause all) (is_false trues l) refl (literal_value a l) refl
  where
    by : (clause_value a clause ≡ true → clause_value a (filter (λ m. not (is_false trues m)) clause) ≡ true) → (t : Bool) → is_false trues l ≡ t → (v : Bool) → literal_value a l ≡ v → clause_value a (cond (not t) (l ∷ filter (λ m. not (is_false trues m)) clause) (filter (λ m. not (is_false trues m)) clause)) ≡ true
    by others true is v value = others (sym (ap (λ x. x || clause_value a clause) (false_is a trues l all is)) ∙ holds)
    by others false is true value = ap (λ x. x || clause_value a (filter (λ m. not (is_false trues m)) clause)) value
    by others false is false value =
        ap (λ x. x || clause_value a (filter (λ m. not (is_false trues m)) clause)) value
        ∙ others (sym (ap (λ x. x || clause_value a clause) value) ∙ holds)

-- nothing is left only of a false clause
nothing_left : (a : Assignment) (clause : Clause) → clause_value a clause ≡ true → left_by clause ≡ lefts.Nothing → ⊥
nothing_left a [] holds is = true≢false (sym holds)
nothing_left a (l ∷ clause) holds is = by (list_all (is_same l) clause) is
  where
    by : (t : Bool) → cond t (lefts.One l) lefts.Several ≡ lefts.Nothing → ⊥
    by true is = cc
    by false is = cc

-- where all are one literal, that one is true
one_true : (a : Assignment) (l : Literal) (clause : Clause) → list_all (is_same l) clause ≡ true → clause_value a clause ≡ true → literal_value a l ≡ true
one_true a l [] all holds = absurd (true≢false (sym holds))
one_true a l (m ∷ clause) all holds = by (one_true a l clause (both _ _ all).1) (literal_value a m) refl
  where
    by : (clause_value a clause ≡ true → literal_value a l ≡ true) → (v : Bool) → literal_value a m ≡ v → literal_value a l ≡ true
    by others true value = ap (literal_value a) (same-equal l m (both _ _ all).0) ∙ value
    by others false value = others (sym (ap (λ x. x || clause_value a clause) value) ∙ holds)

one_left : (a : Assignment) (clause : Clause) (l : Literal) → clause_value a clause ≡ true → left_by clause ≡ lefts.One l → literal_value a l ≡ true
one_left a [] l holds is = absurd (cc)
one_left a (m ∷ clause) l holds is = by (list_all (is_same m) clause) refl is
  where
    by : (t : Bool) → list_all (is_same m) clause ≡ t → cond t (lefts.One m) lefts.Several ≡ lefts.One l → literal_value a l ≡ true
    by true all is =
        let same : m ≡ l = cc in
        sym (ap (literal_value a) same) ∙ at (literal_value a m) refl all
      where
        at : (v : Bool) → literal_value a m ≡ v → list_all (is_same m) clause ≡ true → literal_value a m ≡ true
        at true value all = value
        at false value all = one_true a m clause all (sym (ap (λ x. x || clause_value a clause) value) ∙ holds)
    by false all is = absurd (cc)

-- the clauses that are there are true
pub Holds : Assignment → Numbered → Type 0
Holds a there = (n : ℕ) (clause : Clause) → there n ≡ Some clause → clause_value a clause ≡ true

-- hints lead to no contradiction where the clauses that are there are true
no_refutation : (a : Assignment) (there : Numbered) (trues : List Literal) (hints : List ℕ) → Holds a there → AllTrue a trues → refutes there trues hints ≡ true → ⊥
unfolding Holds
no_refutation a there trues [] holds all is = true≢false (sym is)
no_refutation a there trues (hint ∷ hints) holds all is = by (λ l. no_refutation a there (l ∷ trues) hints holds) (there hint) refl is
  where
    at : ((l : Literal) → AllTrue a (l ∷ trues) → refutes there (l ∷ trues) hints ≡ true → ⊥) → (clause : Clause) → clause_value a clause ≡ true → (left : Left) → left_of trues clause ≡ left → propagates left (λ l. refutes there (l ∷ trues) hints) ≡ true → ⊥
    at others clause value lefts.Nothing left is = nothing_left a _ (left_holds a trues clause all value) left
    at others clause value (lefts.One l) left is = others l (all_true-cons a l trues (one_left a _ l (left_holds a trues clause all value) left) all) is
    at others clause value lefts.Several left is = true≢false (sym is)

    by : ((l : Literal) → AllTrue a (l ∷ trues) → refutes there (l ∷ trues) hints ≡ true → ⊥) → (o : Option Clause) → there hint ≡ o → option_map_or (λ clause. propagates (left_of trues clause) (λ l. refutes there (l ∷ trues) hints)) o false ≡ true → ⊥
    by others None was is = true≢false (sym is)
    by others (Some clause) was is = at others clause (holds hint clause was) (left_of trues clause) refl is

-- a clause that follows by its hints is true
pub follows_true : (a : Assignment) (there : Numbered) (clause : Clause) (hints : List ℕ) → Holds a there → follows_by_hints there clause hints ≡ true → clause_value a clause ≡ true
unfolding follows_by_hints Denied
follows_true a there clause hints holds follows = by (clause_value a clause) refl
  where
    from : (o : Option (List Literal)) → Denied a o → option_map_or (λ trues. refutes there trues hints) o true ≡ true → ⊥
    from None denies is = denies
    from (Some trues) denies is = no_refutation a there trues hints holds denies is

    by : (v : Bool) → clause_value a clause ≡ v → clause_value a clause ≡ true
    by true value = value
    by false value = absurd (from (denied [] clause) (denied-true a [] clause (all_true-nil a) value) follows)

-- an assignment makes the clauses true that are there, and none of them was without literals
record Stands (a : Assignment) (p : Progress) : Type 0 where
  holds : Holds a p.there
  some : p.is_refuted ≡ true → ⊥

get-all : (a : Assignment) (clauses : List Clause) (k : ℕ) (clause : Clause) → Satisfies a clauses → slice_get clauses k ≡ Some clause → clause_value a clause ≡ true
get-all a [] k clause all is = absurd (cc)
get-all a (c ∷ clauses) zero clause all is = let same : c ≡ clause = cc in sym (ap (clause_value a) same) ∙ (both _ _ all).0
get-all a (c ∷ clauses) (suc k) clause all is = get-all a clauses k clause (both _ _ all).1 is

none_empty : (a : Assignment) (clauses : List Clause) → Satisfies a clauses → list_any is_empty clauses ≡ true → ⊥
none_empty a [] all is = true≢false (sym is)
none_empty a ([] ∷ clauses) all is = true≢false (sym (both false (list_all (clause_value a) clauses) all).0)
none_empty a ((l ∷ clause) ∷ clauses) all is = none_empty a clauses (both (clause_value a (l ∷ clause)) (list_all (clause_value a) clauses) all).1 is

begin-stands : (a : Assignment) (clauses : List Clause) → Satisfies a clauses → Stands a (begin clauses)
unfolding Holds
begin-stands a clauses all = record { holds = λ n clause is. at n clause is; some = none_empty a clauses all }
  where
    at : (n : ℕ) (clause : Clause) → numbered clauses n ≡ Some clause → clause_value a clause ≡ true
    at zero clause is = absurd (cc)
    at (suc k) clause is = get-all a clauses k clause all is

with_clause-stands : (a : Assignment) (p : Progress) (number : ℕ) (clause : Clause) → Stands a p → clause_value a clause ≡ true → Stands a (with_clause number clause p)
unfolding Holds
with_clause-stands a p number clause stands value = record { holds = λ n c is. there n c is; some = λ is. empty clause (p.is_refuted) refl value is }
  where
    there : (n : ℕ) (c : Clause) → cond (eqb n number) (Some clause) (p.there n) ≡ Some c → clause_value a c ≡ true
    there n c is = by (eqb n number) is
      where
        by : (t : Bool) → cond t (Some clause) (p.there n) ≡ Some c → clause_value a c ≡ true
        by true is = let same : clause ≡ c = cc in sym (ap (clause_value a) same) ∙ value
        by false is = stands.holds n c is

    empty : (c : Clause) (t : Bool) → p.is_refuted ≡ t → clause_value a c ≡ true → (t || is_empty c) ≡ true → ⊥
    empty c true was value is = stands.some was
    empty [] false was value is = true≢false (sym value)
    empty (l ∷ c) false was value is = true≢false (sym is)

without_clause-stands : (a : Assignment) (p : Progress) (number : ℕ) → Stands a p → Stands a (without_clause number p)
unfolding Holds
without_clause-stands a p number stands = record { holds = λ n c is. by n c (eqb n number) is; some = stands.some }
  where
    by : (n : ℕ) (c : Clause) (t : Bool) → cond t None (p.there n) ≡ Some c → clause_value a c ≡ true
    by n c true is = absurd (cc)
    by n c false is = stands.holds n c is

added-stands : (a : Assignment) (number : ℕ) (clause : Clause) (hints : List ℕ) (p q : Progress) → Stands a p → added number clause hints p ≡ Ok q → Stands a q
added-stands a number clause hints p q stands is = above (nat_lt p.last number) (follows_by_hints p.there clause hints) refl is
  where
    above : (t u : Bool) → follows_by_hints p.there clause hints ≡ u → cond {A = Result Progress ℕ} t (cond {A = Result Progress ℕ} u (Ok (with_clause number clause p)) (Err 94)) (Err 93) ≡ Ok q → Stands a q
    above true true follows is =
        let same : with_clause number clause p ≡ q = cc in
        subst (Stands a) same (with_clause-stands a p number clause stands (follows_true a p.there clause hints stands.holds follows))
    above true false follows is = absurd (cc)
    above false u follows is = absurd (cc)

dropped-stands : (a : Assignment) (numbers : List ℕ) (p q : Progress) → Stands a p → dropped numbers p ≡ Ok q → Stands a q
dropped-stands a [] p q stands is = let same : p ≡ q = cc in subst (Stands a) same stands
dropped-stands a (number ∷ numbers) p q stands is =
    by (dropped-stands a numbers (without_clause number p) q (without_clause-stands a p number stands)) (is_some (p.there number)) is
  where
    by : (dropped numbers (without_clause number p) ≡ Ok q → Stands a q) → (t : Bool) → cond {A = Result Progress ℕ} t (dropped numbers (without_clause number p)) (Err 94) ≡ Ok q → Stands a q
    by others true is = others is
    by others false is = absurd (cc)

step-stands : (a : Assignment) (o : Option Step) (p q : Progress) → Stands a p → after_step o p ≡ Ok q → Stands a q
step-stands a None p q stands is = absurd (cc)
step-stands a (Some skips) p q stands is = let same : p ≡ q = cc in subst (Stands a) same stands
step-stands a (Some (adds number clause hints)) p q stands is = added-stands a number clause hints p q stands is
step-stands a (Some (drops numbers)) p q stands is = dropped-stands a numbers p q stands is

line-stands : (a : Assignment) (variables : ℕ) (line : List ℕ) (p q : Progress) → Stands a p → after_line variables line p ≡ Ok q → Stands a q
unfolding after_line
line-stands a variables line p q stands is = step-stands a (step_of variables (tokens_of line)) p q stands is

-- no lines without a fault follow where an assignment makes all clauses true
no_end : (a : Assignment) (variables : ℕ) (p : Progress) (number : ℕ) (lines : List (List ℕ)) → Stands a p → fault_from variables p number lines ≡ None → ⊥
no_end a variables p number [] stands is = by p.is_refuted refl is
  where
    by : (t : Bool) → p.is_refuted ≡ t → cond t None (Some (fault_in 95 number)) ≡ None → ⊥
    by true was is = stands.some was
    by false was is = cc
no_end a variables p number (line ∷ lines) stands is = by (λ q. no_end a variables q (capped (number + 1)) lines) (after_line variables line p) refl is
  where
    by : ((q : Progress) → Stands a q → fault_from variables q (capped (number + 1)) lines ≡ None → ⊥) → (r : Result Progress ℕ) → after_line variables line p ≡ r → goes_on r number (λ next. fault_from variables next (capped (number + 1)) lines) ≡ None → ⊥
    by others (Ok q) was is = others q (line-stands a variables line p q stands was) is
    by others (Err fault) was is = cc

-- the law of refutations
pub refuted : (formula : Cnf) (first_line : ℕ) (text : List ℕ) → fault_of formula first_line text ≡ None → IsUnsatisfiable formula.clauses
unfolding fault_of
refuted formula first_line text is a all = no_end a formula.variables (begin formula.clauses) first_line (lines_of text) (begin-stands a formula.clauses all) is
