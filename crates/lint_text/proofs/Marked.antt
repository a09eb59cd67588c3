-- What is marked of the uses of rules.
use Rattle.std.proofs.Common.{◌≡◌, inl, inr, ℕ, zero, suc, ◌+◌, ◌<◌, ◌≤◌, add-one, Bool, true, false, List, [], ◌∷◌, length, take, refl, sym, ap, ◌∙◌, arith, get_or, eq-eqb}
use Rattle.std.specs.Prelude.{◌==◌, ◌&&◌, ◌||◌, slice_index_or, slice_set}
use Rattle.std.specs.List.{list_any}
use Rattle.std.proofs.lemmas.Bool.{cases_eq, ne_eqb}
use Rattle.std.proofs.lemmas.List.{get_or_default, get_or-set_other, get_or-set_same}
use Rattle.koika_check.specs.declared.checked.Checked.{Checked}
use Rattle.lab_lint.specs.Occurrences.{rule_part}
use Rattle.lab_lint.specs.Order.{is_scheduled}
use Rattle.lint_text.specs.Notes.{is_of}
use Rattle.lint_text.specs.declared.note.Use.{Use}

-- a scheduled rule's body has such an occurrence
abbrev pub uses_by : Checked → Use → (number rule : ℕ) → Bool
uses_by d kind number rule = is_scheduled d.nodes rule && list_any (is_of kind number) (rule_part d rule).all

pub or-true : (b : Bool) → (b || true) ≡ true
or-true true = refl
or-true false = refl

pub or-false : (b : Bool) → (b || false) ≡ b
or-false true = refl
or-false false = refl

pub or-assoc : (a b c : Bool) → ((a || b) || c) ≡ (a || (b || c))
or-assoc true b c = refl
or-assoc false b c = refl

-- a place that was marked, or another one
pub marked_at : (marks : List Bool) (place number : ℕ) → place < length marks
    → slice_index_or (slice_set marks place true) number false ≡ (slice_index_or marks number false || (place == number))
marked_at marks place number inside = elim (cases_eq number place) [
  | inl same ↦
      ap (λ (k : ℕ). slice_index_or (slice_set marks place true) k false) same ∙ get_or-set_same marks place true false inside
      ∙ sym (or-true (slice_index_or marks number false))
      ∙ ap (λ (b : Bool). slice_index_or marks number false || b) (sym (eq-eqb place number (sym same)))
  | inr other ↦
      get_or-set_other marks place number true false other
      ∙ sym (or-false (slice_index_or marks number false))
      ∙ ap (λ (b : Bool). slice_index_or marks number false || b) (sym (ne_eqb place number (λ same. other (sym same))))
]

-- no place is marked, where the mark is beyond them
pub unmarked_at : (marks : List Bool) (place number : ℕ) → length marks ≤ place → number < length marks
    → slice_index_or marks number false ≡ (slice_index_or marks number false || (place == number))
unmarked_at marks place number beyond inside =
    sym (or-false (slice_index_or marks number false))
    ∙ ap (λ (b : Bool). slice_index_or marks number false || b) (sym (ne_eqb place number (λ same. omega (arith, same, beyond, inside))))

-- one item more
pub any_take : {X : Type 0} (p : X → Bool) (xs : List X) (i : ℕ) (x : X) → i < length xs → x ≡ get_or xs i x
    → list_any p (take (i + 1) xs) ≡ (list_any p (take i xs) || p x)
any_take {X} p xs i x inside is = ap (λ (k : ℕ). list_any p (take k xs)) (add-one i) ∙ more xs i inside is
  where
    more : (ys : List X) (k : ℕ) → k < length ys → x ≡ get_or ys k x → list_any p (take (suc k) ys) ≡ (list_any p (take k ys) || p x)
    more [] k h e = absurd (omega (arith, h))
    more (y ∷ ys) zero h e = or-false (p y) ∙ ap p (sym e)
    more (y ∷ ys) (suc k) h e = ap (λ (b : Bool). p y || b) (more ys k (omega (arith, h)) e) ∙ sym (or-assoc (p y) (list_any p (take k ys)) (p x))

-- the same by the item itself
pub marked_more : {X : Type 0} (p : X → Bool) (xs : List X) (i : ℕ) (d : X) (old before new : Bool) → new ≡ (before || p (get_or xs i d))
    → before ≡ (old || list_any p (take i xs)) → i < length xs → new ≡ (old || list_any p (take (i + 1) xs))
marked_more {X} p xs i d old before new one so_far inside =
    let x : X = get_or xs i d in
    one ∙ ap (λ (b : Bool). b || p x) so_far ∙ or-assoc old (list_any p (take i xs)) (p x)
    ∙ ap (λ (b : Bool). old || b) (sym (any_take p xs i x inside (get_or_default xs i d x inside)))
