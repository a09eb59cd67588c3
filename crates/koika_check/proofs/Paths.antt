-- Whether a rule is on a path, by the place that it has.
use Rattle.std.proofs.Common.{◌≡◌, ℕ, suc, ◌<◌, ◌≤◌, Bool, true, false, nat_eq, ◌||◌, List, [], ◌∷◌, length, get_or, ap, sym, ◌∙◌, refl, arith}
use Rattle.std.proofs.lemmas.Bool.{eqb-true, eqb-false}
use Rattle.std.proofs.lemmas.List.Folds.{list_any_at}
use Rattle.koika_check.specs.inner.Paths.{IsPath}
use Rattle.koika_check.specs.Schedule.{is_on}
use Rattle.koika_check.specs.declared.path.Path.{Path}
use Rattle.koika_check.proofs.Bindings.{not_true}

eqb-refl : (n : ℕ) → nat_eq n n ≡ true
eqb-refl n = grind arith

-- a rule on the path has a place there
pub place_of : (rule : ℕ) (rules : List ℕ) → is_on rule rules ≡ true → (k : ℕ) × (k < length rules) × (get_or rules k 0 ≡ rule)
place_of rule [] e = absurd cc
place_of rule (r ∷ rules) e = by_test (nat_eq rule r) refl (place_of rule rules)
  where
    by_test : (t : Bool) → nat_eq rule r ≡ t → (is_on rule rules ≡ true → (k : ℕ) × (k < length rules) × (get_or rules k 0 ≡ rule)) → (k : ℕ) × (k < suc (length rules)) × (get_or (r ∷ rules) k 0 ≡ rule)
    by_test true t inner = (0, omega arith, sym (eqb-true rule r t))
    by_test false t inner =
        let found = inner (ap (λ b. b || is_on rule rules) (sym t) ∙ e) in
        (suc found.0, omega (arith, found.1), found.2)

-- the place that a rule has, and the rule that is there
pub has-within : (p : Path) → IsPath p → (rule place one : ℕ) → place ≡ get_or p.places rule 0 → place < length p.rules → one ≡ get_or p.rules place 0 → nat_eq one rule ≡ is_on rule p.rules
has-within p kept rule place one e lt is = by_test (nat_eq one rule) refl
  where
    by_test : (t : Bool) → nat_eq one rule ≡ t → t ≡ is_on rule p.rules
    by_test true t = sym (list_any_at (nat_eq rule) p.rules place 0 lt (ap (nat_eq rule) (sym is ∙ eqb-true one rule t) ∙ eqb-refl rule))
    by_test false t = sym (not_true (is_on rule p.rules) (λ on.
        let found = place_of rule p.rules on in
        let same : place ≡ found.0 = e ∙ sym (ap (λ r. get_or p.places r 0) found.2) ∙ kept.placed found.0 found.1 in
        eqb-false one rule t (is ∙ ap (λ k. get_or p.rules k 0) same ∙ found.2)))

-- where there is no such place the rule isn't on the path
pub has-past : (p : Path) → IsPath p → (rule place : ℕ) → place ≡ get_or p.places rule 0 → length p.rules ≤ place → is_on rule p.rules ≡ false
has-past p kept rule place e le = not_true (is_on rule p.rules) (λ on.
    let found = place_of rule p.rules on in
    let same : place ≡ found.0 = e ∙ sym (ap (λ r. get_or p.places r 0) found.2) ∙ kept.placed found.0 found.1 in
    omega (arith, same, found.1))
