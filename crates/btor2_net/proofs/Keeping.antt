-- What stands on a page stays while lines are put on it, and which lines of a rule are put.
use Rattle.std.proofs.Common.{◌≡◌, ℕ, zero, suc, ◌+◌, ◌<◌, ◌≤◌, ◌^◌, nat_eq, Bool, true, false, ◌||◌, cond, List, [], ◌∷◌, ◌++◌, Option, None, Some, length, refl, sym, ap, ◌∙◌, subst, arith, append-nil}
use Rattle.std.specs.Prelude.{slice_get}
use Rattle.std.specs.List.{find, list_any}
use Rattle.std.specs.Option.{option_or, option_to_list}
use Rattle.std.proofs.lemmas.Bool.{eq-eqb, eqb-true}
use Rattle.std.proofs.lemmas.List.Elements.{filter-append}
use Rattle.std.proofs.lemmas.List.Folds.{find-append}
use Rattle.btor2_text.specs.Printable.{AreTokens, IsIdNumber}
use Rattle.btor2_text.specs.declared.keyword.Keyword.{Keyword}
use Rattle.btor2_text.specs.declared.kind.ArgumentKind.{ArgumentKind}
use Rattle.btor2_text.specs.declared.line.Argument.{Argument}
use Rattle.btor2_text.specs.declared.line.Line.{Line}
use Rattle.btor2_model.specs.Rules.{is_init, is_input, is_next, is_state, role_of, rule_of, width_given}
use Rattle.btor2_model.specs.Run.{StepValues, lines_by_rule, value_by, values_at}
use Rattle.btor2_model.specs.Scope.{DeclaredIds, argument_depends, behind, behind_all, id_at, set_now, width_wanted}
use Rattle.btor2_model.specs.declared.meaning.IdMeaning.{IdMeaning}
use Rattle.btor2_model.specs.declared.meaning.Role.TheVariants as roles
use Rattle.btor2_model.specs.declared.rule.Measures.{Measures}
use Rattle.btor2_model.specs.declared.rule.FormRule.{FormRule}
use Rattle.btor2_net.specs.Pages.{Page, line_on, next_id, put}
use Rattle.btor2_net.specs.Translations.{AreCounted}
use Rattle.btor2_net.proofs.Adding.{Asked, Sound, known-within, length-put, meaning-is, means-new, means-put, put-sound, scope_of, value-new, value-put}

-- what ids mean, and their values, stay
pub record Keeps (p q : Page) : Type 0 where
  pub means : (id : ℕ) (m : IdMeaning) → (scope_of p).meanings id ≡ Some m → (scope_of q).meanings id ≡ Some m
  pub values : (step : StepValues) (id : ℕ) (m : IdMeaning) → (scope_of p).meanings id ≡ Some m → values_at q.lines step id ≡ values_at p.lines step id

pub keeps-all : (p : Page) → Keeps p p
keeps-all p = record { means = λ id m is. is; values = λ step id m is. refl }

pub keeps-both : (p q r : Page) → Keeps p q → Keeps q r → Keeps p r
keeps-both p q r one two = record {
  means = λ id m is. two.means id m (one.means id m is);
  values = λ step id m is. two.values step id m (one.means id m is) ∙ one.values step id m is;
}

-- the id is that of a sort, or of a value, of this width
abbrev pub Names : ArgumentKind → Page → ℕ → ℕ → Type 0
Names kind p id width = width_wanted kind ((scope_of p).meanings id) ≡ Some width

pub known-by : (kind : ArgumentKind) (o : Option IdMeaning) (width : ℕ) → width_wanted kind o ≡ Some width → (m : IdMeaning) × (o ≡ Some m)
known-by kind (Some m) width is = (m, refl)
known-by kind None width is = absurd (cc)

pub names-keep : (kind : ArgumentKind) (p q : Page) (id width : ℕ) → Keeps p q → Names kind p id width → Names kind q id width
names-keep kind p q id width keeps is =
    let m = known-by kind ((scope_of p).meanings id) width is in
    ap (width_wanted kind) (keeps.means id m.0 m.1) ∙ sym (ap (width_wanted kind) m.1) ∙ is

pub value-keep : (kind : ArgumentKind) (p q : Page) (step : StepValues) (id width : ℕ) → Keeps p q → Names kind p id width → values_at q.lines step id ≡ values_at p.lines step id
value-keep kind p q step id width keeps is = let m = known-by kind ((scope_of p).meanings id) width is in keeps.values step id m.0 m.1

-- such an id can be written
pub written-id : (kind : ArgumentKind) (p : Page) (id width : ℕ) → Sound p → Names kind p id width → length p.lines < 2 ^ 64 → IsIdNumber id
written-id kind p id width s is few =
    let m = known-by kind ((scope_of p).meanings id) width is in
    let within = known-within p id m.0 s m.1 in (within.0, omega (arith, within.1, few))

-- the line sets this state
abbrev pub set_of : ℕ → Line → Bool
set_of state line = nat_eq state (id_at line.arguments 1)

-- the states that lines set, and those that were set before
abbrev pub set_by : (ℕ → Bool) → List Line → ℕ → Bool
set_by states [] = states
set_by states (line ∷ lines) = set_by (set_now true states (id_at line.arguments 1)) lines

set-now : (now : Bool) (states : ℕ → Bool) (line : Line) (lines : List Line) → set_by (set_now now states (id_at line.arguments 1)) lines ≡ set_by states (cond now (line ∷ lines) lines)
set-now true states line lines = refl
set-now false states line lines = refl

-- the states with an `init` are those that the lines of `init` set; so with `next`
pub initialized-by : (lines : List Line) (scope : DeclaredIds) → (behind_all scope lines).initialized ≡ set_by scope.initialized (lines_by_rule is_init lines)
initialized-by [] scope = refl
initialized-by (line ∷ lines) scope = initialized-by lines (behind scope line) ∙ set-now (is_init (rule_of line.keyword)) scope.initialized line (lines_by_rule is_init lines)

pub continued-by : (lines : List Line) (scope : DeclaredIds) → (behind_all scope lines).continued ≡ set_by scope.continued (lines_by_rule is_next lines)
continued-by [] scope = refl
continued-by (line ∷ lines) scope = continued-by lines (behind scope line) ∙ set-now (is_next (rule_of line.keyword)) scope.continued line (lines_by_rule is_next lines)

-- a state that no line sets
eq-turned : (a b : ℕ) → nat_eq a b ≡ false → nat_eq b a ≡ false
eq-turned a b apart = by (nat_eq b a) refl
  where
    by : (c : Bool) → nat_eq b a ≡ c → nat_eq b a ≡ false
    by true is = let same = eq-eqb a b (sym (eqb-true b a is)) in absurd (cc)
    by false is = is

pub unset : (lines : List Line) (states : ℕ → Bool) (id : ℕ) → states id ≡ false → find (set_of id) lines ≡ None → set_by states lines id ≡ false
unset [] states id before none = before
unset (line ∷ lines) states id before none = by (set_of id line) refl (unset lines (set_now true states (id_at line.arguments 1)) id)
  where
    by : (b : Bool) → set_of id line ≡ b → (set_now true states (id_at line.arguments 1) id ≡ false → find (set_of id) lines ≡ None → set_by states (line ∷ lines) id ≡ false) → set_by states (line ∷ lines) id ≡ false
    by true is more = let some : find (set_of id) (line ∷ lines) ≡ Some line = ap (λ (b : Bool). cond b (Some line) (find (set_of id) lines)) is in absurd (cc)
    by false is more =
        more (ap (λ (b : Bool). cond b true (states id)) (eq-turned id (id_at line.arguments 1) is) ∙ before)
        (sym (ap (λ (b : Bool). cond b (Some line) (find (set_of id) lines)) is) ∙ none)

-- and one that a line sets
still-set : (lines : List Line) (states : ℕ → Bool) (id : ℕ) → states id ≡ true → set_by states lines id ≡ true
still-set [] states id before = before
still-set (line ∷ lines) states id before = still-set lines (set_now true states (id_at line.arguments 1)) id (by (nat_eq (id_at line.arguments 1) id))
  where
    by : (b : Bool) → cond b true (states id) ≡ true
    by true = refl
    by false = before

pub was-set : (lines : List Line) (states : ℕ → Bool) (id : ℕ) (found : Line) → find (set_of id) lines ≡ Some found → set_by states lines id ≡ true
was-set [] states id found is = absurd (cc)
was-set (line ∷ lines) states id found is = by (set_of id line) refl (was-set lines (set_now true states (id_at line.arguments 1)) id found)
  where
    by : (b : Bool) → set_of id line ≡ b → (find (set_of id) lines ≡ Some found → set_by states (line ∷ lines) id ≡ true) → set_by states (line ∷ lines) id ≡ true
    by true here more =
        still-set lines (set_now true states (id_at line.arguments 1)) id
        (ap (λ (b : Bool). cond b true (states id)) (eq-eqb (id_at line.arguments 1) id (sym (eqb-true id (id_at line.arguments 1) here))))
    by false other more = more (sym (ap (λ (b : Bool). cond b (Some line) (find (set_of id) lines)) other) ∙ is)

-- what a sort means
abbrev pub sort_meaning : ℕ → IdMeaning
sort_meaning width = record { role = roles.Sort; width = width; depends = false }

-- a page of accepted lines, whose sorts are those that it knows; a state that isn't there yet has no `init`
pub record Good (p : Page) : Type 0 where
  pub sound : Sound p
  pub sorted : (width id : ℕ) → p.sorts width ≡ Some id → (scope_of p).meanings id ≡ Some (sort_meaning width)
  pub late : (id : ℕ) → length p.lines < id → find (set_of id) (lines_by_rule is_init p.lines) ≡ None
  pub counted : AreCounted p.lines

-- the lines of a rule with one more line
pub picked : (test : FormRule → Bool) (p : Page) (keyword : Keyword) (given : List Argument) (symbol : Option (List ℕ)) (b : Bool) → test (rule_of keyword) ≡ b
    → lines_by_rule test (put p keyword given symbol).lines ≡ lines_by_rule test p.lines ++ cond b (line_on p keyword given symbol ∷ []) []
picked test p keyword given symbol b is =
    filter-append (λ (l : Line). test (rule_of l.keyword)) p.lines (line_on p keyword given symbol ∷ [])
    ∙ ap (λ (c : Bool). lines_by_rule test p.lines ++ cond c (line_on p keyword given symbol ∷ []) []) is

pub not-picked : (test : FormRule → Bool) (p : Page) (keyword : Keyword) (given : List Argument) (symbol : Option (List ℕ)) → test (rule_of keyword) ≡ false
    → lines_by_rule test (put p keyword given symbol).lines ≡ lines_by_rule test p.lines
not-picked test p keyword given symbol is = picked test p keyword given symbol false is ∙ append-nil (lines_by_rule test p.lines)

-- an item behind others
pub behind-others : {X : Type 0} (xs : List X) (x y : X) (k : ℕ) → slice_get (xs ++ x ∷ []) k ≡ Some y → (P : ℕ → X → Type 0) → ((j : ℕ) (z : X) → slice_get xs j ≡ Some z → P j z) → P (length xs) x → P k y
behind-others {X} [] x y zero at P all own = let same : x ≡ y = cc in subst (P 0) same own
behind-others {X} [] x y (suc k) at P all own = absurd (cc)
behind-others {X} (z ∷ xs) x y zero at P all own = all 0 y at
behind-others {X} (z ∷ xs) x y (suc k) at P all own = behind-others xs x y k at (λ j w. P (suc j) w) (λ j w is. all (suc j) w is) own

module _ (p : Page) (rule : FormRule) (keyword : Keyword) (given : List Argument) (symbol : Option (List ℕ)) (m : Measures) (g : Good p) (asked : Asked p rule keyword given m) (token : AreTokens (option_to_list symbol)) where
  abbrev line : Line
  line = line_on p keyword given symbol

  abbrev new : Page
  new = put p keyword given symbol

  pub put-keeps : Keeps p new
  put-keeps = record {
    means = λ id x is. means-put p keyword given symbol id x g.sound is;
    values = λ step id x is. value-put p keyword given symbol step id x g.sound is;
  }

  -- what the new line means
  pub put-means : (scope_of new).meanings (next_id p)
      ≡ Some (record { role = role_of rule; width = width_given rule m; depends = (is_input rule || is_state rule) || list_any (argument_depends (scope_of p)) given })
  put-means = means-new p keyword given symbol ∙ ap Some (meaning-is p rule keyword given symbol m g.sound asked token)

  -- its value
  pub put-value : (step : StepValues) → values_at new.lines step (next_id p) ≡ value_by rule step (scope_of p) (values_at p.lines step) line
  put-value step = value-new p keyword given symbol step ∙ ap (λ (r : FormRule). value_by r step (scope_of p) (values_at p.lines step) line) asked.of

  counted-next : AreCounted new.lines
  counted-next place one at = behind-others p.lines line one place at (λ k l. l.id ≡ k + 1) g.counted refl

  late-by : (b : Bool) → is_init rule ≡ b → (is_init rule ≡ true → id_at given 1 ≤ length p.lines) → (id : ℕ) → length new.lines < id → find (set_of id) (lines_by_rule is_init new.lines) ≡ None
  late-by true is sets id above =
      let count = length-put p keyword given symbol in
      ap (find (set_of id)) (picked is_init p keyword given symbol true (ap is_init asked.of ∙ is)) ∙ find-append (set_of id) (lines_by_rule is_init p.lines) (line ∷ [])
      ∙ ap (λ (o : Option Line). option_or o (find (set_of id) (line ∷ []))) (g.late id (omega (arith, above, count)))
      ∙ ap (λ (b : Bool). cond b (Some line) None) (other (nat_eq id (id_at given 1)) refl (λ same. omega (arith, above, count, sets is, same)))
    where
      other : (c : Bool) → nat_eq id (id_at given 1) ≡ c → (id ≡ id_at given 1 → ⊥) → nat_eq id (id_at given 1) ≡ false
      other true same not = absurd (not (eqb-true id (id_at given 1) same))
      other false apart not = apart
  late-by false is sets id above =
      let count = length-put p keyword given symbol in
      ap (find (set_of id)) (not-picked is_init p keyword given symbol (ap is_init asked.of ∙ is)) ∙ g.late id (omega (arith, above, count))

  -- the page with the line is as good
  pub put-good : (is_init rule ≡ true → id_at given 1 ≤ length p.lines) → Good new
  put-good sets = record {
    sound = put-sound p rule keyword given symbol m g.sound asked token;
    sorted = λ width id is. put-keeps.means id (sort_meaning width) (g.sorted width id is);
    late = late-by (is_init rule) refl sets;
    counted = counted-next;
  }
