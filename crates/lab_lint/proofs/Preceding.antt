-- The rules before which a rule may have fired, by the marks of nodes.
use Rattle.std.proofs.Common.{◌≡◌, ◌≢◌, ◌⊎◌, inl, inr, ℕ, ◌+◌, ◌<◌, ◌≤◌, Bool, true, false, List, length, replicate, Some, refl, sym, ap, ◌∙◌, subst, arith}
use Rattle.std.specs.Prelude.{IsTrue, ◌↔◌, slice_get, slice_index_or, slice_set}
use Rattle.std.proofs.lemmas.Bool.{cases_eq, cases_lt}
use Rattle.std.proofs.lemmas.List.{get_or-set_other, get_or-set_same, length-set}
use Rattle.std.proofs.lemmas.Option.{slice_get_within}
use Rattle.typed_core.specs.declared.design.Node.{Node}
use Rattle.one_rule.specs.Laws.{Tries}
use Rattle.lab_lint.specs.Order.{MayHaveFired, MayPrecede}
use Rattle.lab_lint.specs.inner.Sweeps.{IsSwept, marked_if}
use Rattle.lab_lint.specs.declared.order.Sweep.TheVariants.{After}
use Rattle.lab_lint.proofs.Sweeping.{blank, fired-reached, no-mark, reached-fired}

-- a node of the rule is marked, among the first that many
abbrev pub IsBefore : List Node → List Bool → ℕ → ℕ → Type 0
IsBefore nodes marks i rule = (number : ℕ) × (number < i) × Tries nodes number rule × (slice_index_or marks number false ≡ true)

pub record RowTo (nodes : List Node) (marks : List Bool) (rules i : ℕ) (row : List Bool) : Type 0 where
  pub long : length row ≡ rules
  pub sound : (rule : ℕ) → slice_index_or row rule false ≡ true → IsBefore nodes marks i rule
  pub complete : (rule : ℕ) → IsBefore nodes marks i rule → slice_index_or row rule false ≡ true

pub row-begins : (nodes : List Node) (marks : List Bool) (rules : ℕ) → length (replicate rules false) ≡ rules → RowTo nodes marks rules 0 (replicate rules false)
row-begins nodes marks rules long = record {
  long = long;
  sound = λ rule h. absurd (no-mark rules rule h);
  complete = λ rule b. absurd (omega (arith, b.1));
}

module _ (nodes : List Node) (marks : List Bool) (rules i : ℕ) (row : List Bool) (node : Node) (is : slice_get nodes i ≡ Some node) (before : RowTo nodes marks rules i row) where
  more : (rule : ℕ) → IsBefore nodes marks i rule → IsBefore nodes marks (i + 1) rule
  more rule b = (b.0, omega (arith, b.1), b.2, b.3)

  last : (rule : ℕ) → IsBefore nodes marks (i + 1) rule → IsBefore nodes marks i rule ⊎ ((slice_index_or marks i false ≡ true) × (node.rule ≡ rule))
  last rule b = elim (cases_lt b.0 i) [
    | inl less ↦ inl (b.0, less, b.2, b.3)
    | inr more ↦
        let same : b.0 ≡ i = omega (arith, more, b.1) in
        let both : Some b.2.0 ≡ Some node = sym b.2.1 ∙ ap (slice_get nodes) same ∙ is in
        let one : b.2.0 ≡ node = cc in
        inr (sym (ap (λ k. slice_index_or marks k false) same) ∙ b.3, sym (ap (λ (x : Node). x.rule) one) ∙ b.2.2)
  ]

  row-marked : node.rule < rules → slice_index_or marks i false ≡ true → RowTo nodes marks rules (i + 1) (slice_set row node.rule true)
  row-marked inside h = record {
    long = length-set row node.rule true ∙ before.long;
    sound = λ rule t. elim (cases_eq rule node.rule) [
      | inl same ↦ (i, omega arith, (node, is, sym same), h)
      | inr other ↦ more rule (before.sound rule (sym (get_or-set_other row node.rule rule true false other) ∙ t))
    ];
    complete = λ rule b. elim (cases_eq rule node.rule) [
      | inl same ↦ ap (λ k. slice_index_or (slice_set row node.rule true) k false) same ∙ get_or-set_same row node.rule true false (omega (arith, inside, before.long))
      | inr other ↦ get_or-set_other row node.rule rule true false other ∙ kept rule other (last rule b)
    ];
  }
    where
      kept : (rule : ℕ) → rule ≢ node.rule → IsBefore nodes marks i rule ⊎ ((slice_index_or marks i false ≡ true) × (node.rule ≡ rule)) → slice_index_or row rule false ≡ true
      kept rule other (inl b) = before.complete rule b
      kept rule other (inr here) = absurd (other (sym here.1))

  row-unmarked : slice_index_or marks i false ≡ false → RowTo nodes marks rules (i + 1) row
  row-unmarked h = record {
    long = before.long;
    sound = λ rule t. more rule (before.sound rule t);
    complete = λ rule b. kept rule (last rule b);
  }
    where
      kept : (rule : ℕ) → IsBefore nodes marks i rule ⊎ ((slice_index_or marks i false ≡ true) × (node.rule ≡ rule)) → slice_index_or row rule false ≡ true
      kept rule (inl b) = before.complete rule b
      kept rule (inr here) = let both : true ≡ false = sym here.0 ∙ h in absurd cc

  pub row-more : node.rule < rules → RowTo nodes marks rules (i + 1) (marked_if (slice_index_or marks i false) node.rule row)
  row-more inside = chosen (slice_index_or marks i false) refl
    where
      chosen : (b : Bool) → slice_index_or marks i false ≡ b → RowTo nodes marks rules (i + 1) (marked_if b node.rule row)
      chosen true h = row-marked inside h
      chosen false h = row-unmarked h

pub row-precedes : (nodes : List Node) (marks : List Bool) (rules i earlier : ℕ) (row : List Bool) → length nodes ≤ i → RowTo nodes marks rules i row
    → IsSwept After nodes earlier (blank nodes) marks → (rule : ℕ) → IsTrue (slice_index_or row rule false) ↔ MayPrecede nodes earlier rule
row-precedes nodes marks rules i earlier row all to swept rule = (
  λ h. let b = to.sound rule h in
      (b.0, b.2, reached-fired nodes earlier b.0 ((swept b.0).0 b.3) (slice_get_within nodes b.0 b.2.0 b.2.1)),
  λ p. to.complete rule (p.0, omega (arith, slice_get_within nodes p.0 p.1.0 p.1.1, all), p.1, (swept p.0).1 (fired-reached nodes earlier p.0 p.2)),
)
