-- How often a rule is tried on the paths from a node, by what stands behind the node; and that no rule stands twice
-- on a path where each is tried once at most.
use Rattle.std.proofs.Common.{◌≡◌, ℕ, zero, suc, ◌+◌, ◌-◌, ◌≤◌, ◌<◌, max, Bool, true, false, List, [], ◌∷◌, length, replicate, Option, Some, None, AllPairs, get_or, inl, inr, refl, sym, ap, ◌∙◌, subst, arith, eqb-true, eq-eqb}
use Rattle.std.specs.Prelude.{◌⊎◌, ◌==◌, if◌then◌else◌, slice_get, slice_index}
use Rattle.std.proofs.lemmas.Bool.{cases_lt}
use Rattle.std.proofs.lemmas.List.{get_or_past, get_or-replicate}
use Rattle.std.proofs.Math.ListN.{length-replicate}
use Rattle.std.proofs.lemmas.Option.{slice_get_within}
use Rattle.typed_core.specs.Paths.{Ascends}
use Rattle.typed_core.specs.inner.Paths.{AreMost, IsTriedOnce, tries, times, IsMost, number_behind}
use Rattle.typed_core.specs.Valid.{AreNodes, TriesNoneTwice, IsContinuation, IsPath, TryOthers}
use Rattle.typed_core.specs.declared.design.Node.{Node}
use Rattle.typed_core.specs.declared.design.Next.{Next}
use Rattle.typed_core.specs.declared.design.Next.TheVariants as next

-- no path that goes on behind the node tries the rule more often, and some path does so often
pub record IsBehind (nodes : List Node) (rule number : ℕ) (after : Next) (most : ℕ) : Type 0 where
  pub bound : (to : ℕ) (path : List ℕ) → after ≡ next.Node to → IsPath nodes to path → times nodes rule (to ∷ path) ≤ most
  pub met : 1 ≤ most → (to : ℕ) × (path : List ℕ) × (after ≡ next.Node to) × IsPath nodes to path × (times nodes rule (to ∷ path) ≡ most)
  pub few : most ≤ length nodes - (number + 1)

-- what is known of all later nodes is known behind the node
pub behind : (nodes : List Node) (rule number : ℕ) (after : Next) (numbers : List ℕ) → IsContinuation (length nodes) number after → ((from : ℕ) → number + 1 ≤ from → IsMost nodes rule from (slice_index numbers from)) → IsBehind nodes rule number after (number_behind numbers after)
behind nodes rule number (next.Node to) numbers ok all =
    let m = all to (omega (arith, ok.0)) in
    record {
      bound = λ to' path e p. let same : to ≡ to' = cc in subst (λ (n : ℕ). IsPath nodes n path → times nodes rule (n ∷ path) ≤ slice_index numbers to) same (m.bound path) p;
      met = λ h. let w = m.met h in (to, w.0, refl, w.1, w.2);
      few = omega (arith, m.few, ok.0);
    }
behind nodes rule number next.End numbers ok all =
    record { bound = λ to path e p. absurd cc; met = λ h. absurd (omega (arith, h)); few = omega arith }

module _ (nodes : List Node) (rule number : ℕ) (node : Node) (yes no : ℕ) (here : slice_get nodes number ≡ Some node) (y : IsBehind nodes rule number node.yes yes) (n : IsBehind nodes rule number node.no no) where
  abbrev one : ℕ
  one = if tries rule (Some node) then 1 else 0

  times-here : (path : List ℕ) → times nodes rule (number ∷ path) ≡ times nodes rule path + one
  times-here path = ap (λ (o : Option Node). times nodes rule path + (if tries rule o then 1 else 0)) here

  bound_here : (path : List ℕ) → IsPath nodes number path → times nodes rule (number ∷ path) ≤ max yes no + one
  bound_here [] p = rw times-here (omega arith)
  bound_here (to ∷ path) ((node', e, s), p) =
      let same : node' ≡ node = cc in
      let below : times nodes rule (to ∷ path) ≤ max yes no = elim s [ inl f ↦ omega (arith, y.bound to path (sym (ap (λ (m : Node). m.yes) same) ∙ f) p) | inr f ↦ omega (arith, n.bound to path (sym (ap (λ (m : Node). m.no) same) ∙ f) p) ] in
      rw (times-here (to ∷ path)) (omega (arith, below))

  one_small : (b : Bool) → (if b then 1 else 0) ≤ 1
  one_small true = omega arith
  one_small false = omega arith

  met_behind : (after : Next) (most : ℕ) → (after ≡ node.yes) ⊎ (after ≡ node.no) → IsBehind nodes rule number after most → 1 ≤ most → max yes no ≡ most → (path : List ℕ) × IsPath nodes number path × (times nodes rule (number ∷ path) ≡ max yes no + one)
  met_behind after most s b some e =
      let w = b.met some in
      let goes : (node.yes ≡ next.Node w.0) ⊎ (node.no ≡ next.Node w.0) = elim s [ inl f ↦ inl (sym f ∙ w.2) | inr f ↦ inr (sym f ∙ w.2) ] in
      (w.0 ∷ w.1, ((node, here, goes), w.3), times-here (w.0 ∷ w.1) ∙ ap (λ k. k + one) (w.4 ∙ sym e))

  met_here : 1 ≤ max yes no + one → (path : List ℕ) × IsPath nodes number path × (times nodes rule (number ∷ path) ≡ max yes no + one)
  met_here some = elim (cases_lt yes no) [
    | inl more ↦ met_behind node.no no (inr refl) n (omega (arith, more)) (omega (arith, more))
    | inr less ↦ elim (cases_lt 0 yes) [
      | inl positive ↦ met_behind node.yes yes (inl refl) y (omega (arith, positive)) (omega (arith, less))
      | inr none ↦ ([], slice_get_within nodes number node here, times-here [] ∙ (omega (arith, none, less)))
    ]
  ]

  pub most_here : IsMost nodes rule number (max yes no + one)
  most_here = record { bound = bound_here; met = met_here; few = omega (arith, y.few, n.few, one_small (tries rule (Some node)), slice_get_within nodes number node here) }

-- no path begins past the last node
pub no_node : (nodes : List Node) (rule from : ℕ) → length nodes ≤ from → IsMost nodes rule from 0
no_node nodes rule from past = record { bound = bound; met = λ h. absurd (omega (arith, h)); few = omega arith }
  where
    bound : (path : List ℕ) → IsPath nodes from path → times nodes rule (from ∷ path) ≤ 0
    bound [] p = absurd (omega (arith, p, past))
    bound (to ∷ path) ((node, e, s), p) = absurd (omega (arith, slice_get_within nodes from node e, past))

-- the most times from a node, by the numbers of later nodes
pub most_at : (nodes : List Node) (rule number : ℕ) (node : Node) (numbers : List ℕ) (most : ℕ) → slice_get nodes number ≡ Some node → Ascends nodes → AreMost nodes rule (number + 1) numbers → most ≡ max (number_behind numbers node.yes) (number_behind numbers node.no) → IsMost nodes rule number (most + (if node.rule == rule then 1 else 0))
most_at nodes rule number node numbers most found ascends later is =
    let on = ascends number node found in
    rw is (most_here nodes rule number node _ _ found (behind nodes rule number node.yes numbers on.0 later) (behind nodes rule number node.no numbers on.1 later))

-- before any node is looked at
pub AreMost-zeros : (nodes : List Node) (rule n : ℕ) → AreMost nodes rule (length nodes) (replicate n 0)
AreMost-zeros nodes rule n from past =
    let zero_at : slice_index (replicate n 0) from ≡ 0 = elim (cases_lt from n) [
      | inl within ↦ get_or-replicate n from 0 0 within
      | inr beyond ↦ get_or_past (replicate n 0) from 0 (omega (arith, length-replicate {A = ℕ} n 0, beyond))
    ] in
    subst (IsMost nodes rule from) (sym zero_at) (no_node nodes rule from past)

-- ---- no rule stands twice where each is tried once at most

-- how often a rule is tried, with its first node apart
module _ (nodes : List Node) (rule : ℕ) where
  abbrev try_at : ℕ → Bool
  try_at number = tries rule (slice_get nodes number)

  times-yes : (number : ℕ) (path : List ℕ) → try_at number ≡ true → times nodes rule (number ∷ path) ≡ times nodes rule path + 1
  times-yes number path e = ap (λ b. times nodes rule path + (if b then 1 else 0)) e

  -- a rule that is tried at some place is tried
  times-some : (path : List ℕ) (j d : ℕ) → j < length path → try_at (get_or path j d) ≡ true → 1 ≤ times nodes rule path
  times-some [] j d within e = absurd (omega (arith, within))
  times-some (number ∷ path) zero d within e = omega (arith, times-yes number path e)
  times-some (number ∷ path) (suc j) d within e = omega (arith, times-some path j d (omega (arith, within)) e)

  -- a rule that is tried at two places is tried twice
  times-two : (path : List ℕ) (i j d : ℕ) → i < j → j < length path → try_at (get_or path i d) ≡ true → try_at (get_or path j d) ≡ true → 2 ≤ times nodes rule path
  times-two [] i j d order within e f = absurd (omega (arith, within))
  times-two (number ∷ path) zero zero d order within e f = absurd (omega (arith, order))
  times-two (number ∷ path) zero (suc j) d order within e f = omega (arith, times-yes number path e, times-some path j d (omega (arith, within)) f)
  times-two (number ∷ path) (suc i) zero d order within e f = absurd (omega (arith, order))
  times-two (number ∷ path) (suc i) (suc j) d order within e f = omega (arith, times-two path i j d (omega (arith, order)) (omega (arith, within)) e f)

  -- a place where the rule is tried
  abbrev PlaceIn : List ℕ → Type 0
  PlaceIn path = (j : ℕ) × (j < length path) × ((d : ℕ) → try_at (get_or path j d) ≡ true)

  place_in : (number : ℕ) (path : List ℕ) (b : Bool) → try_at number ≡ b → 1 ≤ times nodes rule path + (if b then 1 else 0) → (1 ≤ times nodes rule path → PlaceIn path) → PlaceIn (number ∷ path)
  place_in number path true e some later = (0, omega arith, λ d. e)
  place_in number path false e some later =
      let place = later (omega (arith, some)) in (suc place.0, omega (arith, place.1), λ d. place.2 d)

  -- a rule that is tried is tried at some place
  times-place : (path : List ℕ) → 1 ≤ times nodes rule path → PlaceIn path
  times-place [] some = absurd (omega (arith, some))
  times-place (number ∷ path) some = place_in number path (try_at number) refl some (times-place path)

  tried_node : (o : Option Node) → tries rule o ≡ true → (node : Node) × (o ≡ Some node) × (node.rule ≡ rule)
  tried_node None e = absurd cc
  tried_node (Some node) e = (node, refl, eqb-true node.rule rule e)

  -- a rule that is tried first is tried no more
  none_later : (number : ℕ) (path : List ℕ) → AllPairs (TryOthers nodes) (number ∷ path) → try_at number ≡ true → 1 ≤ times nodes rule path → ⊥
  none_later number path all e some =
      let place = times-place path some in
      let m = tried_node (slice_get nodes number) e in
      let n = tried_node (slice_get nodes (get_or path place.0 0)) (place.2 0) in
      all 0 (suc place.0) 0 (omega arith) (omega (arith, place.1)) m.0 n.0 m.1 n.1 (m.2 ∙ sym n.2)

  once_with : (number : ℕ) (path : List ℕ) (b : Bool) → (b ≡ true → 1 ≤ times nodes rule path → ⊥) → times nodes rule path ≤ 1 → times nodes rule path + (if b then 1 else 0) ≤ 1
  once_with number path false none later = omega (arith, later)
  once_with number path true none later = elim (cases_lt 0 (times nodes rule path)) [ inl some ↦ absurd (none refl some) | inr not ↦ omega (arith, not) ]

  -- where no two nodes try one rule, the rule is tried once at most
  once-at_most : (path : List ℕ) → AllPairs (TryOthers nodes) path → times nodes rule path ≤ 1
  once-at_most [] all = omega arith
  once-at_most (number ∷ path) all =
      once_with number path (try_at number) (none_later number path all) (once-at_most path (λ i j d order within. all (suc i) (suc j) d (omega (arith, order)) (omega (arith, within))))

-- each rule is tried once at most exactly where no rule stands twice on a path
pub once-tried : (nodes : List Node) → TriesNoneTwice nodes → (rule : ℕ) → IsTriedOnce nodes rule
once-tried nodes once rule path p = once-at_most nodes rule (0 ∷ path) (once path p)

pub tried-once : (nodes : List Node) (rules : ℕ) → AreNodes rules nodes → ((rule : ℕ) → rule < rules → IsTriedOnce nodes rule) → TriesNoneTwice nodes
tried-once nodes rules valid tried path p i j d order within m n e f same =
    let xs = 0 ∷ path in
    let first : try_at nodes m.rule (get_or xs i d) ≡ true = ap (tries m.rule) e ∙ eq-eqb m.rule m.rule refl in
    let second : try_at nodes m.rule (get_or xs j d) ≡ true = ap (tries m.rule) f ∙ eq-eqb n.rule m.rule (sym same) in
    omega (arith, times-two nodes m.rule xs i j d order within first second, tried m.rule (valid _ m e).rule path p)
