-- A page with one more line of a width, and items in pairs.
use Rattle.std.proofs.Common.{◌≡◌, ℕ, zero, suc, ◌≤◌, Bool, true, ◌||◌, cond, List, [], ◌∷◌, ◌++◌, Option, None, Some, length, map, refl, sym, ap, ap₂, ◌∙◌, subst, arith, All}
use Rattle.std.specs.Prelude.{slice_get}
use Rattle.std.specs.List.{list_any}
use Rattle.std.specs.Option.{option_map, option_to_list}
use Rattle.std.proofs.lemmas.Option.{get_or_from_slice_get, slice_get-map, slice_get_within}
use Rattle.btor2_text.specs.Printable.{AreTokens}
use Rattle.btor2_text.specs.declared.keyword.Keyword.{Keyword}
use Rattle.btor2_text.specs.declared.line.Argument.{Argument}
use Rattle.btor2_text.specs.declared.line.Line.{Line}
use Rattle.btor2_model.specs.Rules.{is_init, is_input, is_state, role_of, width_given}
use Rattle.btor2_model.specs.Run.{StepValues, lines_by_rule, value_by, values_at}
use Rattle.btor2_model.specs.Scope.{argument_depends, id_at}
use Rattle.btor2_model.specs.declared.rule.Measures.{Measures}
use Rattle.btor2_model.specs.declared.rule.FormRule.{FormRule}
use Rattle.btor2_net.specs.Pages.{Page, arguments_of, line_on, sort_id, with_line, with_sort}
use Rattle.btor2_net.proofs.Adding.{Asked, scope_of}
use Rattle.btor2_net.proofs.Keeping.{Good, Keeps, keeps-both, picked, put-good, put-keeps, put-means, put-value}
use Rattle.btor2_net.proofs.WrittenSorts.{HasSort, has-sort}

-- a page with one more line behind another
pub record HasLine (p one q : Page) (width : ℕ) (line : Line) (rule : FormRule) (m : Measures) : Type 0 where
  pub sorted : HasSort p one width
  pub good : Good q
  pub last : Keeps one q
  pub keeps : Keeps p q
  pub means : (scope_of q).meanings line.id
      ≡ Some (record { role = role_of rule; width = width_given rule m; depends = (is_input rule || is_state rule) || list_any (argument_depends (scope_of one)) line.arguments })
  pub value : (step : StepValues) → values_at q.lines step line.id ≡ value_by rule step (scope_of one) (values_at one.lines step) line
  pub picked : (test : FormRule → Bool) → lines_by_rule test q.lines ≡ lines_by_rule test one.lines ++ cond (test rule) (line ∷ []) []

module _ (p : Page) (width : ℕ) (keyword : Keyword) (ids numbers : List ℕ) (symbol : Option (List ℕ)) (rule : FormRule) (m : Measures) (g : Good p) (some : 1 ≤ width) (most : width ≤ 128) where
  abbrev one : Page
  one = with_sort p width

  abbrev given : List Argument
  given = arguments_of (sort_id one width) ids numbers

  pub has-line : (HasSort p one width → Asked one rule keyword given m) → AreTokens (option_to_list symbol) → (is_init rule ≡ true → id_at given 1 ≤ length one.lines)
      → HasLine p one (with_line p width keyword ids numbers symbol) width (line_on one keyword given symbol) rule m
  has-line asks token sets =
      let h = has-sort p width g some most in
      let asked = asks h in
      let keeps = put-keeps one rule keyword given symbol m h.good asked token in
      record {
        sorted = h;
        good = put-good one rule keyword given symbol m h.good asked token sets;
        last = keeps;
        keeps = keeps-both p one (with_line p width keyword ids numbers symbol) h.keeps keeps;
        means = put-means one rule keyword given symbol m h.good asked token;
        value = put-value one rule keyword given symbol m h.good asked token;
        picked = λ test. picked test one keyword given symbol (test rule) (ap test asked.of);
      }

-- each item with the one of the same place
abbrev pub Pairs : {A B : Type 0} → (A → B → Type 0) → List A → List B → Type 0
Pairs {A} {B} P [] [] = Unit {0}
Pairs {A} {B} P [] (y ∷ ys) = ⊥
Pairs {A} {B} P (x ∷ xs) [] = ⊥
Pairs {A} {B} P (x ∷ xs) (y ∷ ys) = P x y × Pairs P xs ys

pub pairs-weaker : {A B : Type 0} (P Q : A → B → Type 0) (xs : List A) (ys : List B) → ((x : A) (y : B) → P x y → Q x y) → Pairs P xs ys → Pairs Q xs ys
pairs-weaker {A} {B} P Q [] [] f all = tt
pairs-weaker {A} {B} P Q [] (y ∷ ys) f all = all
pairs-weaker {A} {B} P Q (x ∷ xs) [] f all = all
pairs-weaker {A} {B} P Q (x ∷ xs) (y ∷ ys) f all = (f x y all.0, pairs-weaker P Q xs ys f all.1)

pub pairs-push : {A B : Type 0} (P : A → B → Type 0) (xs : List A) (ys : List B) (x : A) (y : B) → Pairs P xs ys → P x y → Pairs P (xs ++ x ∷ []) (ys ++ y ∷ [])
pairs-push {A} {B} P [] [] x y all own = (own, tt)
pairs-push {A} {B} P [] (b ∷ ys) x y all own = absurd all
pairs-push {A} {B} P (a ∷ xs) [] x y all own = absurd all
pairs-push {A} {B} P (a ∷ xs) (b ∷ ys) x y all own = (all.0, pairs-push P xs ys x y all.1 own)

pub pairs-map : {A B X : Type 0} (P : A → B → Type 0) (f : A → X) (g : B → X) (xs : List A) (ys : List B) → ((x : A) (y : B) → P x y → f x ≡ g y) → Pairs P xs ys → map f xs ≡ map g ys
pairs-map {A} {B} {X} P f g [] [] same all = refl
pairs-map {A} {B} {X} P f g [] (y ∷ ys) same all = absurd all
pairs-map {A} {B} {X} P f g (x ∷ xs) [] same all = absurd all
pairs-map {A} {B} {X} P f g (x ∷ xs) (y ∷ ys) same all = ap₂ (λ (z : X) (zs : List X). z ∷ zs) (same x y all.0) (pairs-map P f g xs ys same all.1)

-- the pair of a place
pub pairs-at : {A B : Type 0} (P : A → B → Type 0) (xs : List A) (ys : List B) (k : ℕ) (y : B) → Pairs P xs ys → slice_get ys k ≡ Some y → (x : A) × (slice_get xs k ≡ Some x) × P x y
pairs-at {A} {B} P [] [] k y all at = absurd (cc)
pairs-at {A} {B} P [] (b ∷ ys) k y all at = absurd all
pairs-at {A} {B} P (a ∷ xs) [] k y all at = absurd all
pairs-at {A} {B} P (a ∷ xs) (b ∷ ys) zero y all at = let same : b ≡ y = cc in (a, refl, subst (P a) same all.0)
pairs-at {A} {B} P (a ∷ xs) (b ∷ ys) (suc k) y all at = pairs-at P xs ys k y all.1 at

pub pairs-count : {A B : Type 0} (P : A → B → Type 0) (xs : List A) (ys : List B) → Pairs P xs ys → length xs ≡ length ys
pairs-count {A} {B} P [] [] all = refl
pairs-count {A} {B} P [] (b ∷ ys) all = absurd all
pairs-count {A} {B} P (a ∷ xs) [] all = absurd all
pairs-count {A} {B} P (a ∷ xs) (b ∷ ys) all = let rest = pairs-count P xs ys all.1 in omega (arith, rest)

pub pairs-first : {A B : Type 0} (P : A → B → Type 0) (xs : List A) (ys : List B) (k : ℕ) (x : A) → Pairs P xs ys → slice_get xs k ≡ Some x → (y : B) × P x y
pairs-first {A} {B} P [] ys k x all at = absurd (cc)
pairs-first {A} {B} P (a ∷ xs) [] k x all at = absurd all
pairs-first {A} {B} P (a ∷ xs) (b ∷ ys) zero x all at = let same : a ≡ x = cc in (b, subst (λ (z : A). P z b) same all.0)
pairs-first {A} {B} P (a ∷ xs) (b ∷ ys) (suc k) x all at = pairs-first P xs ys k x all.1 at

-- functions that agree on each item
pub map-each : {A X : Type 0} (f g : A → X) (xs : List A) → ((k : ℕ) (x : A) → slice_get xs k ≡ Some x → f x ≡ g x) → map f xs ≡ map g xs
map-each {A} {X} f g [] same = refl
map-each {A} {X} f g (x ∷ xs) same = ap₂ (λ (y : X) (ys : List X). y ∷ ys) (same 0 x refl) (map-each f g xs (λ k z at. same (suc k) z at))

-- the item of a place of mapped ones
pub mapped : {A : Type 0} (f : A → ℕ) (xs : List A) (k : ℕ) (w : ℕ) → slice_get (map f xs) k ≡ Some w → (x : A) × (slice_get xs k ≡ Some x) × (f x ≡ w)
mapped {A} f xs k w at = by (slice_get xs k) refl (sym (slice_get-map f xs k) ∙ at)
  where
    by : (o : Option A) → slice_get xs k ≡ o → option_map f (slice_get xs k) ≡ Some w → (x : A) × (slice_get xs k ≡ Some x) × (f x ≡ w)
    by None is found = let none : option_map f (slice_get xs k) ≡ None = ap (option_map f) is in absurd (cc)
    by (Some x) is found = let some : Some (f x) ≡ Some w = sym (ap (option_map f) is) ∙ found in (x, is, cc)

-- what holds of an item at a place
pub one-of-all : {X : Type 0} (P : X → Type 0) (xs : List X) (k : ℕ) (x : X) → All P xs → slice_get xs k ≡ Some x → P x
one-of-all {X} P xs k x all at = subst P (get_or_from_slice_get xs k x x at) (all k x (slice_get_within xs k x at))
