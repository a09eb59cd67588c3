-- Values of variables against partial assignments: what is left of a clause.
use Rattle.std.proofs.Common.{◌≡◌, ℕ, ◌<◌, suc, Bool, true, false, not, cond, List, [], ◌∷◌, length, Option, Some, None, Result, Ok, Err, refl, sym, ap, ◌∙◌, subst, arith}
use Rattle.std.specs.List.{All, filter, list_all}
use Rattle.std.specs.Option.{option_map_or}
use Rattle.std.specs.Result.{IfOk}
use Rattle.kw_bits.specs.declared.memory.NoMemory.{NoMemory}
use Rattle.std.specs.Prelude.{◌&&◌}
use Rattle.clause_check.specs.Clauses.{Clause, is_same, negation}
use Rattle.clause_check.specs.Propagation.{Numbered, denied, follows_by_hints, is_false, is_true, left_by, left_of, propagates, refutes}
use Rattle.clause_check.specs.declared.left.Left.{Left}
use Rattle.clause_check.specs.declared.left.Left.TheVariants as lefts
use Rattle.clause_check.specs.declared.literal.Literal.{Literal}
use Rattle.clause_check.specs.declared.values.Value.{Value}
use Rattle.clause_check.specs.inner.Values.{Agrees, Denies, LeftIsBelow, left_with, makes, value_in}

-- what is left with one more literal that isn't false, by the values
abbrev pub left_and : List Value → Left → Literal → Left
left_and of left literal = cond (makes (value_in of literal.variable) (negation literal)) left (left_with left literal)

abbrev pub left_from : List Value → Left → Clause → Left
left_from of left [] = left
left_from of left (literal ∷ clause) = left_from of (left_and of left literal) clause

-- the same over literals that aren't false
left_all : Left → Clause → Left
left_all left [] = left
left_all left (literal ∷ clause) = left_all (left_with left literal) clause

several : (clause : Clause) → left_all lefts.Several clause ≡ lefts.Several
unfolding left_all
several [] = refl
several (literal ∷ clause) = several clause

one_and : (first : Literal) (clause : Clause) → left_all (lefts.One first) clause ≡ cond (list_all (is_same first) clause) (lefts.One first) lefts.Several
unfolding left_all
one_and first [] = refl
one_and first (literal ∷ clause) = by (one_and first clause) (is_same first literal)
  where
    by : left_all (lefts.One first) clause ≡ cond (list_all (is_same first) clause) (lefts.One first) lefts.Several → (t : Bool) → left_all (cond t (lefts.One first) lefts.Several) clause ≡ cond (t && list_all (is_same first) clause) (lefts.One first) lefts.Several
    by others true = others
    by others false = several clause

left_by-all : (clause : Clause) → left_all lefts.Nothing clause ≡ left_by clause
unfolding left_all
left_by-all [] = refl
left_by-all (first ∷ clause) = one_and first clause

-- the literals that the values make false are those that a partial assignment does
from-filter : (of : List Value) (trues : List Literal) (left : Left) (clause : Clause) → Agrees of trues → All (λ (l : Literal). l.variable < length of) clause
    → left_from of left clause ≡ left_all left (filter (λ l. not (is_false trues l)) clause)
unfolding left_all
from-filter of trues left [] agrees within = refl
from-filter of trues left (l ∷ clause) agrees within = ap (λ t. left_from of (cond t left (left_with left l)) clause) (agrees (negation l) (within 0 l (omega arith)))
    ∙ by (λ left. from-filter of trues left clause agrees (λ k d less. within (suc k) d (omega (arith, less)))) (is_false trues l)
  where
    by : ((left : Left) → left_from of left clause ≡ left_all left (filter (λ m. not (is_false trues m)) clause)) → (t : Bool) → left_from of (cond t left (left_with left l)) clause ≡ left_all left (cond (not t) (l ∷ filter (λ m. not (is_false trues m)) clause) (filter (λ m. not (is_false trues m)) clause))
    by others true = others left
    by others false = others (left_with left l)

pub left_of-values : (of : List Value) (trues : List Literal) (clause : Clause) → Agrees of trues → All (λ (l : Literal). l.variable < length of) clause → left_from of lefts.Nothing clause ≡ left_of trues clause
left_of-values of trues clause agrees within =
    from-filter of trues lefts.Nothing clause agrees within ∙ left_by-all (filter (λ l. not (is_false trues l)) clause)

-- the one literal that is left isn't false
pub left-not_false : (trues : List Literal) (clause : Clause) (l : Literal) → left_of trues clause ≡ lefts.One l → is_false trues l ≡ false
left-not_false trues [] l is = absurd (cc)
left-not_false trues (m ∷ clause) l is = by (left-not_false trues clause l) (is_false trues m) refl is
  where
    first : (t : Bool) → cond t (lefts.One m) lefts.Several ≡ lefts.One l → m ≡ l
    first true is = cc
    first false is = absurd (cc)

    by : (left_of trues clause ≡ lefts.One l → is_false trues l ≡ false) → (t : Bool) → is_false trues m ≡ t → left_by (cond (not t) (m ∷ filter (λ n. not (is_false trues n)) clause) (filter (λ n. not (is_false trues n)) clause)) ≡ lefts.One l → is_false trues l ≡ false
    by others true falsified is = others is
    by others false isnt is = sym (ap (is_false trues) (first (list_all (is_same m) (filter (λ n. not (is_false trues n)) clause)) is)) ∙ isnt

-- the first of literals that are within, and the others
pub first_within : (n m : ℕ) (l : Literal) (rest others : Clause) → rest ≡ l ∷ others → All (λ (x : Literal). x.variable < n) rest → m ≡ n → l.variable < m
first_within n m l rest others cut within same = omega (arith, subst (λ (xs : Clause). All (λ (x : Literal). x.variable < n) xs) cut within 0 l (omega arith), same)

-- what is left stays below
pub left_below : (count : ℕ) (t : Bool) (left : Left) (l : Literal) → LeftIsBelow count left → l.variable < count → LeftIsBelow count (cond t left (left_with left l))
left_below count true left l below within = below
left_below count false lefts.Nothing l below within = within
left_below count false (lefts.One first) l below within = by (is_same first l)
  where
    by : (t : Bool) → LeftIsBelow count (cond t (lefts.One first) lefts.Several)
    by true = below
    by false = tt
left_below count false lefts.Several l below within = tt

-- ---- a clause is denied

not-not : (b : Bool) → not (not b) ≡ b
not-not true = refl
not-not false = refl

negation-negation : (l : Literal) → negation (negation l) ≡ l
negation-negation l = ap (λ (b : Bool). let m : Literal = record { variable = l.variable; is_negated = b } in m) (not-not l.is_negated)

-- one literal more is made false
pub deny_more : (of new : List Value) (trues : List Literal) (l : Literal) (rest others : Clause) (whole : Option (List Literal)) → rest ≡ l ∷ others → l.variable < length of → makes (value_in of l.variable) l ≡ false
    → ((t : List Literal) → Agrees of t → is_false t (negation l) ≡ false → Agrees new (negation l ∷ t)) → Agrees of trues → denied trues rest ≡ whole
    → (more : List Literal) × Agrees new more × (denied more others ≡ whole)
deny_more of new trues l rest others whole cut within fails assumes agrees left =
    let isnt : is_true trues l ≡ false = sym (agrees l within) ∙ fails in (
      negation l ∷ trues,
      assumes trues agrees (ap (is_true trues) (negation-negation l) ∙ isnt),
      sym (ap (denied trues) cut ∙ ap (λ t. cond t None (denied (negation l ∷ trues) others)) isnt) ∙ left,
    )

-- one is true already
pub deny_stop : (of : List Value) (trues : List Literal) (l : Literal) (rest others : Clause) (whole : Option (List Literal)) → rest ≡ l ∷ others → l.variable < length of → makes (value_in of l.variable) l ≡ true
    → Agrees of trues → denied trues rest ≡ whole → Denies of false whole
deny_stop of trues l rest others whole cut within holds agrees left =
    let is : is_true trues l ≡ true = sym (agrees l within) ∙ holds in
    subst (Denies of false) (sym (ap (denied trues) cut ∙ ap (λ t. cond t None (denied (negation l ∷ trues) others)) is) ∙ left) tt

-- no literal is left
pub deny_end : (of : List Value) (trues : List Literal) (rest : Clause) (whole : Option (List Literal)) → rest ≡ [] → Agrees of trues → denied trues rest ≡ whole → Denies of true whole
deny_end of trues rest whole none agrees left = subst (Denies of true) (sym (ap (denied trues) none) ∙ left) agrees

-- ---- hints are followed

module _ (there : Numbered) (now : List Literal) (rest : List ℕ) (hint : ℕ) (others : List ℕ) (cut : rest ≡ hint ∷ others) where
  by_hint : (o : Option Clause) → there hint ≡ o → refutes there now rest ≡ option_map_or (λ clause. propagates (left_of now clause) (λ l. refutes there (l ∷ now) others)) o false
  by_hint o is = ap (refutes there now) cut ∙ ap (λ (c : Option Clause). option_map_or (λ clause. propagates (left_of now clause) (λ l. refutes there (l ∷ now) others)) c false) is

  pub hint_absent : there hint ≡ None → refutes there now rest ≡ false
  hint_absent is = by_hint None is

  by_left : (clause : Clause) (left : Left) → there hint ≡ Some clause → left_of now clause ≡ left → refutes there now rest ≡ propagates left (λ l. refutes there (l ∷ now) others)
  by_left clause left is left_is = by_hint (Some clause) is ∙ ap (λ (x : Left). propagates x (λ l. refutes there (l ∷ now) others)) left_is

  pub hint_ends : (clause : Clause) → there hint ≡ Some clause → left_of now clause ≡ lefts.Nothing → refutes there now rest ≡ true
  hint_ends clause is left_is = by_left clause lefts.Nothing is left_is

  pub hint_fails : (clause : Clause) → there hint ≡ Some clause → left_of now clause ≡ lefts.Several → refutes there now rest ≡ false
  hint_fails clause is left_is = by_left clause lefts.Several is left_is

  pub hint_goes_on : (clause : Clause) (l : Literal) → there hint ≡ Some clause → left_of now clause ≡ lefts.One l → refutes there now rest ≡ refutes there (l ∷ now) others
  hint_goes_on clause l is left_is = by_left clause (lefts.One l) is left_is

-- ---- both together

pub follows_denied : (there : Numbered) (clause : Clause) (hints : List ℕ) (of : List Value) → Denies of false (denied [] clause) → follows_by_hints there clause hints ≡ true
unfolding follows_by_hints
follows_denied there clause hints of denies = by (denied [] clause) denies
  where
    by : (o : Option (List Literal)) → Denies of false o → option_map_or (λ trues. refutes there trues hints) o true ≡ true
    by None denies = refl
    by (Some trues) denies = absurd denies

pub follows_refuted : (there : Numbered) (clause : Clause) (hints : List ℕ) (of : List Value) (found : Bool) → Denies of true (denied [] clause) → ((trues : List Literal) → Agrees of trues → found ≡ refutes there trues hints)
    → found ≡ follows_by_hints there clause hints
unfolding follows_by_hints
follows_refuted there clause hints of found denies is = by (denied [] clause) denies
  where
    by : (o : Option (List Literal)) → Denies of true o → found ≡ option_map_or (λ trues. refutes there trues hints) o true
    by None denies = absurd denies
    by (Some trues) denies = is trues denies

pub follows_ok : (r : Result Bool NoMemory) (there : Numbered) (clause : Clause) (hints : List ℕ) (of : List Value) → Denies of true (denied [] clause)
    → IfOk r (λ found. (trues : List Literal) → Agrees of trues → found ≡ refutes there trues hints) → IfOk r (λ found. found ≡ follows_by_hints there clause hints)
follows_ok (Ok found) there clause hints of denies is = follows_refuted there clause hints of found denies is
follows_ok (Err e) there clause hints of denies is = is
