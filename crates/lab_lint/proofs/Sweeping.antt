-- Marks that go from node to node, one node after another.
use Rattle.std.proofs.Common.{◌≡◌, ◌≢◌, ◌⊎◌, inl, inr, ℕ, zero, suc, ◌+◌, ◌<◌, ◌≤◌, Bool, true, false, List, [], ◌∷◌, length, replicate, Option, Some, None, refl, sym, ap, ◌∙◌, subst, eq-eqb, eqb-true, arith}
use Rattle.std.specs.Prelude.{IsTrue, ◌↔◌, ◌==◌, ◌&&◌, ◌||◌, not, slice_get, slice_index_or, slice_set, if◌then◌else◌}
use Rattle.std.proofs.lemmas.Bool.{cases_eq, cases_lt, eqb-false, ne_eqb}
use Rattle.std.proofs.lemmas.List.{get_or_default, get_or-replicate, get_or-set_other, get_or-set_same, get_or_past, length-replicate, length-set}
use Rattle.std.proofs.lemmas.Option.{slice_get_within}
use Rattle.typed_core.specs.Paths.{Ascends}
use Rattle.typed_core.specs.Valid.{IsContinuation, LeadsTo}
use Rattle.typed_core.specs.declared.design.Next.{Next}
use Rattle.typed_core.specs.declared.design.Next.TheVariants as next
use Rattle.typed_core.specs.declared.design.Node.{Node}
use Rattle.typed_core.specs.Continuations.{root}
use Rattle.lab_lint.specs.Order.{ComesPast, Begins, Passes, MayBeUntried, MayHaveFired, Fires, GoesOn}
use Rattle.lab_lint.specs.inner.Sweeps.{IsReached, IsSwept, Given, ByRule, ByYes, ByNo, marked_if, marks_no, marks_yes, passed, place_of}
use Rattle.lab_lint.specs.declared.order.Sweep.{Sweep}
use Rattle.lab_lint.specs.declared.order.Sweep.TheVariants.{After, Past}

abbrev at : List Bool → ℕ → Bool
at marks k = slice_index_or marks k false

-- ---- one mark

mark-length : (b : Bool) (k : ℕ) (marks : List Bool) → length (marked_if b k marks) ≡ length marks
mark-length true k marks = length-set marks k true
mark-length false k marks = refl

mark-here : (b : Bool) (k : ℕ) (marks : List Bool) → k < length marks → b ≡ true → at (marked_if b k marks) k ≡ true
mark-here true k marks inside h = get_or-set_same marks k true false inside
mark-here false k marks inside h = absurd cc

mark-other : (b : Bool) (k j : ℕ) (marks : List Bool) → j ≢ k → at (marked_if b k marks) j ≡ at marks j
mark-other true k j marks other = get_or-set_other marks k j true false other
mark-other false k j marks other = refl

mark-kept : (b : Bool) (k j : ℕ) (marks : List Bool) → k < length marks → at marks j ≡ true → at (marked_if b k marks) j ≡ true
mark-kept true k j marks inside h = elim (cases_eq j k) [
  | inl same ↦ ap (at (slice_set marks k true)) same ∙ get_or-set_same marks k true false inside
  | inr other ↦ get_or-set_other marks k j true false other ∙ h
]
mark-kept false k j marks inside h = h

mark-back : (b : Bool) (k j : ℕ) (marks : List Bool) → at (marked_if b k marks) j ≡ true → (at marks j ≡ true) ⊎ ((b ≡ true) × (j ≡ k))
mark-back true k j marks h = elim (cases_eq j k) [
  | inl same ↦ inr (refl, same)
  | inr other ↦ inl (sym (get_or-set_other marks k j true false other) ∙ h)
]
mark-back false k j marks h = inl h

-- ---- gates

yes-anyway : (sweep : Sweep) (s : Bool) → marks_yes sweep false s ≡ true → marks_yes sweep true s ≡ true
yes-anyway After s h = refl
yes-anyway Past s h = absurd cc

no-never : (sweep : Sweep) (s : Bool) → marks_no sweep false s ≡ true → ⊥
no-never After s h = cc
no-never Past s h = cc

yes-if : (sweep : Sweep) (m s : Bool) → marks_yes sweep false s ≡ true → marks_yes sweep m s ≡ true
yes-if sweep true s h = yes-anyway sweep s h
yes-if sweep false s h = h

further : (count number : ℕ) (to : Next) → number < count → IsContinuation count number to → (number < place_of to count) × (place_of to count ≤ count)
further count number (next.Node to) inside c = (c.0, omega (arith, c.1))
further count number next.End inside c = (inside, omega arith)

module _ (sweep : Sweep) (nodes : List Node) (rule : ℕ) (begin : List Bool) where
  abbrev n : ℕ
  n = length nodes

  abbrev of_rule : Node → Bool
  of_rule node = node.rule == rule

  -- the marks after the first that many nodes
  pub record SweptTo (i : ℕ) (marks : List Bool) : Type 0 where
    pub long : length marks ≡ n + 1
    pub sound : (k : ℕ) → at marks k ≡ true → IsReached sweep nodes rule begin k
    pub kept : (k : ℕ) → at begin k ≡ true → at marks k ≡ true
    pub yes : (from : ℕ) (node : Node) → from < i → slice_get nodes from ≡ Some node → marks_yes sweep (at marks from) (of_rule node) ≡ true → at marks (place_of node.yes n) ≡ true
    pub no : (from : ℕ) (node : Node) → from < i → slice_get nodes from ≡ Some node → marks_no sweep (at marks from) (of_rule node) ≡ true → at marks (place_of node.no n) ≡ true

  pub swept-begins : length begin ≡ n + 1 → SweptTo 0 begin
  swept-begins long = record {
    long = long;
    sound = λ k h. Given k h;
    kept = λ k h. h;
    yes = λ from node before is g. absurd (omega (arith, before));
    no = λ from node before is g. absurd (omega (arith, before));
  }

  module _ (ascends : Ascends nodes) (i : ℕ) (node : Node) (marks : List Bool) (is : slice_get nodes i ≡ Some node) (swept : SweptTo i marks) where
    abbrev m : Bool
    m = at marks i

    abbrev y : ℕ
    y = place_of node.yes n

    abbrev z : ℕ
    z = place_of node.no n

    abbrev first : List Bool
    first = marked_if (marks_yes sweep m (of_rule node)) y marks

    abbrev second : List Bool
    second = marked_if (marks_no sweep m (of_rule node)) z first

    here : i < n
    here = slice_get_within nodes i node is

    beyond : (i < y) × (y ≤ n)
    beyond = further n i node.yes here (ascends i node is).0

    beyond' : (i < z) × (z ≤ n)
    beyond' = further n i node.no here (ascends i node is).1

    long-first : length first ≡ n + 1
    long-first = mark-length (marks_yes sweep m (of_rule node)) y marks ∙ swept.long

    inside : y < length marks
    inside = omega (arith, swept.long, beyond.1)

    inside' : z < length first
    inside' = omega (arith, long-first, beyond'.1)

    -- marks of nodes that were passed stay as they are
    still : (k : ℕ) → k ≤ i → at second k ≡ at marks k
    still k before =
        mark-other (marks_no sweep m (of_rule node)) z k first (λ e. omega (arith, before, e, beyond'.0))
        ∙ mark-other (marks_yes sweep m (of_rule node)) y k marks (λ e. omega (arith, before, e, beyond.0))

    stays : (k : ℕ) → at marks k ≡ true → at second k ≡ true
    stays k h = mark-kept (marks_no sweep m (of_rule node)) z k first inside' (mark-kept (marks_yes sweep m (of_rule node)) y k marks inside h)

    reached-no : (b : Bool) → m ≡ b → marks_no sweep b (of_rule node) ≡ true → IsReached sweep nodes rule begin z
    reached-no true e g = ByNo i node (swept.sound i e) is g
    reached-no false e g = absurd (no-never sweep (of_rule node) g)

    reached-yes : (b : Bool) → m ≡ b → marks_yes sweep b (of_rule node) ≡ true → IsReached sweep nodes rule begin y
    reached-yes true e g = ByYes i node (swept.sound i e) is g
    reached-yes false e g = ByRule i node is g

    sound-first : (k : ℕ) → at first k ≡ true → IsReached sweep nodes rule begin k
    sound-first k h = elim (mark-back (marks_yes sweep m (of_rule node)) y k marks h) [
      | inl was ↦ swept.sound k was
      | inr new ↦ subst (IsReached sweep nodes rule begin) (sym new.1) (reached-yes m refl new.0)
    ]

    earlier : (from : ℕ) → from < i + 1 → (from < i) ⊎ (from ≡ i)
    earlier from before = elim (cases_lt from i) [ inl less ↦ inl less | inr more ↦ inr (omega (arith, more, before)) ]

    pub swept-more : SweptTo (i + 1) (passed sweep rule n i node marks)
    swept-more = record {
      long = mark-length (marks_no sweep m (of_rule node)) z first ∙ long-first;
      sound = λ k h. elim (mark-back (marks_no sweep m (of_rule node)) z k first h) [
        | inl was ↦ sound-first k was
        | inr new ↦ subst (IsReached sweep nodes rule begin) (sym new.1) (reached-no m refl new.0)
      ];
      kept = λ k h. stays k (swept.kept k h);
      yes = λ from node' before is' g. elim (earlier from before) [
        | inl less ↦ stays (place_of node'.yes n) (swept.yes from node' less is' (sym (ap (λ b. marks_yes sweep b (of_rule node')) (still from (omega (arith, less)))) ∙ g))
        | inr same ↦
            let one : node' ≡ node = one-node from node' same is' in
            let gate : marks_yes sweep m (of_rule node) ≡ true = sym (ap (λ (k : ℕ). marks_yes sweep (at second k) (of_rule node)) same ∙ ap (λ b. marks_yes sweep b (of_rule node)) (still i (omega arith))) ∙ ap (λ (x : Node). marks_yes sweep (at second from) (of_rule x)) (sym one) ∙ g in
            ap (λ (x : Node). at second (place_of x.yes n)) one ∙ mark-kept (marks_no sweep m (of_rule node)) z y first inside' (mark-here (marks_yes sweep m (of_rule node)) y marks inside gate)
      ];
      no = λ from node' before is' g. elim (earlier from before) [
        | inl less ↦ stays (place_of node'.no n) (swept.no from node' less is' (sym (ap (λ b. marks_no sweep b (of_rule node')) (still from (omega (arith, less)))) ∙ g))
        | inr same ↦
            let one : node' ≡ node = one-node from node' same is' in
            let gate : marks_no sweep m (of_rule node) ≡ true = sym (ap (λ (k : ℕ). marks_no sweep (at second k) (of_rule node)) same ∙ ap (λ b. marks_no sweep b (of_rule node)) (still i (omega arith))) ∙ ap (λ (x : Node). marks_no sweep (at second from) (of_rule x)) (sym one) ∙ g in
            ap (λ (x : Node). at second (place_of x.no n)) one ∙ mark-here (marks_no sweep m (of_rule node)) z first inside' gate
      ];
    }
      where
        one-node : (from : ℕ) (node' : Node) → from ≡ i → slice_get nodes from ≡ Some node' → node' ≡ node
        one-node from node' same is' = let both : Some node' ≡ Some node = sym is' ∙ ap (slice_get nodes) same ∙ is in cc

  -- the marks after all nodes
  module _ (marks : List Bool) (i : ℕ) (all : n ≤ i) (swept : SweptTo i marks) where
    complete : (k : ℕ) → IsReached sweep nodes rule begin k → at marks k ≡ true
    complete k (Given place h) = swept.kept k h
    complete k (ByRule from node is g) =
        swept.yes from node (omega (arith, slice_get_within nodes from node is, all)) is (yes-if sweep (at marks from) (of_rule node) g)
    complete k (ByYes from node r is g) =
        swept.yes from node (omega (arith, slice_get_within nodes from node is, all)) is (ap (λ b. marks_yes sweep b (of_rule node)) (complete from r) ∙ g)
    complete k (ByNo from node r is g) =
        swept.no from node (omega (arith, slice_get_within nodes from node is, all)) is (ap (λ b. marks_no sweep b (of_rule node)) (complete from r) ∙ g)

    pub swept-all : IsSwept sweep nodes rule begin marks
    swept-all place = (swept.sound place, complete place)

-- ---- rules that may have fired

pub no-mark : (count k : ℕ) → at (replicate count false) k ≡ true → ⊥
no-mark count k h = elim (cases_lt k count) [
  | inl inside ↦ let e = get_or-replicate count k false false inside in absurd cc
  | inr outside ↦ let e = get_or_past (replicate count false) k false (omega (arith, outside, length-replicate count false)) in absurd cc
]

abbrev pub blank : List Node → List Bool
blank nodes = replicate (length nodes + 1) false

abbrev pub rooted : List Node → List Bool
rooted nodes = slice_set (blank nodes) 0 true

module _ (nodes : List Node) (rule : ℕ) where
  at-yes : (from : ℕ) (node : Node) (to : Next) → node.yes ≡ to → slice_get nodes from ≡ Some node → (node.rule == rule) ≡ true → place_of to (length nodes) < length nodes → MayHaveFired nodes rule (place_of to (length nodes))
  at-yes from node (next.Node to) e is g inside = Fires from to node is (eqb-true node.rule rule g) e
  at-yes from node next.End e is g inside = absurd (omega (arith, inside))

  goes : (from : ℕ) (node : Node) (to : Next) → (node.yes ≡ to) ⊎ (node.no ≡ to) → slice_get nodes from ≡ Some node → MayHaveFired nodes rule from → place_of to (length nodes) < length nodes → MayHaveFired nodes rule (place_of to (length nodes))
  goes from node (next.Node to) side is r inside = GoesOn from to r (node, is, side)
  goes from node next.End side is r inside = absurd (omega (arith, inside))

  pub reached-fired : (k : ℕ) → IsReached After nodes rule (blank nodes) k → k < length nodes → MayHaveFired nodes rule k
  reached-fired k (Given place h) _ = absurd (no-mark (length nodes + 1) k h)
  reached-fired k (ByRule from node is g) inside = at-yes from node node.yes refl is g inside
  reached-fired k (ByYes from node r is g) inside = goes from node node.yes (inl refl) is (reached-fired from r (slice_get_within nodes from node is)) inside
  reached-fired k (ByNo from node r is g) inside = goes from node node.no (inr refl) is (reached-fired from r (slice_get_within nodes from node is)) inside

  pub fired-reached : (k : ℕ) → MayHaveFired nodes rule k → IsReached After nodes rule (blank nodes) k
  fired-reached k (Fires from to node is same y) =
      subst (λ (x : Next). IsReached After nodes rule (blank nodes) (place_of x (length nodes))) y (ByRule from node is (eq-eqb node.rule rule same))
  fired-reached k (GoesOn from to r (node, is, inl y)) =
      subst (λ (x : Next). IsReached After nodes rule (blank nodes) (place_of x (length nodes))) y (ByYes from node (fired-reached from r) is refl)
  fired-reached k (GoesOn from to r (node, is, inr y)) =
      subst (λ (x : Next). IsReached After nodes rule (blank nodes) (place_of x (length nodes))) y (ByNo from node (fired-reached from r) is refl)

-- ---- rules that may be passed by

abbrev pub IsInside : ℕ → Next → Type 0
IsInside count (next.Node to) = to < count
IsInside count next.End = Unit {0}

one-place : (count : ℕ) (a b : Next) → IsInside count a → IsInside count b → place_of a count ≡ place_of b count → a ≡ b
one-place count (next.Node a) (next.Node b) x y e = ap (λ (k : ℕ). next.Node k) e
one-place count (next.Node a) next.End x y e = absurd (omega (arith, x, e))
one-place count next.End (next.Node b) x y e = absurd (omega (arith, y, e))
one-place count next.End next.End x y e = refl

inside-continuation : (count number : ℕ) (to : Next) → IsContinuation count number to → IsInside count to
inside-continuation count number (next.Node to) c = c.1
inside-continuation count number next.End c = tt

root-inside : (nodes : List Node) → IsInside (length nodes) (root nodes)
root-inside [] = tt
root-inside (node ∷ nodes) = omega arith

root-place : (nodes : List Node) → place_of (root nodes) (length nodes) ≡ 0
root-place [] = refl
root-place (node ∷ nodes) = refl

module _ (nodes : List Node) (rule : ℕ) (ascends : Ascends nodes) where
  root-marked : at (rooted nodes) 0 ≡ true
  root-marked = get_or-set_same (replicate (length nodes + 1) false) 0 true false (omega (arith, length-replicate (length nodes + 1) false))

  only-root : (k : ℕ) → at (rooted nodes) k ≡ true → k ≡ 0
  only-root k h = elim (cases_eq k 0) [
    | inl same ↦ same
    | inr other ↦ absurd (no-mark (length nodes + 1) k (sym (get_or-set_other (replicate (length nodes + 1) false) 0 k true false other) ∙ h))
  ]

  other-rule : (node : Node) → not (node.rule == rule) ≡ true → node.rule ≢ rule
  other-rule node g e = let h = eq-eqb node.rule rule e in absurd (clash (node.rule == rule) h g)
    where
      clash : (b : Bool) → b ≡ true → not b ≡ true → ⊥
      clash true h g = cc
      clash false h g = cc

  pub reached-past : (k : ℕ) → IsReached Past nodes rule (rooted nodes) k → (to : Next) → IsInside (length nodes) to → place_of to (length nodes) ≡ k → ComesPast nodes rule to
  reached-past k (Given place h) to inside e =
      Begins to (one-place (length nodes) to (root nodes) inside (root-inside nodes) (e ∙ only-root k h ∙ sym (root-place nodes)))
  reached-past k (ByRule from node is g) to inside e = absurd cc
  reached-past k (ByYes from node r is g) to inside e =
      Passes from to node (reached-past from r (next.Node from) (slice_get_within nodes from node is) refl) is (other-rule node g)
      (inl (one-place (length nodes) to node.yes inside (inside-continuation (length nodes) from node.yes (ascends from node is).0) e))
  reached-past k (ByNo from node r is g) to inside e =
      Passes from to node (reached-past from r (next.Node from) (slice_get_within nodes from node is) refl) is (other-rule node g)
      (inr (one-place (length nodes) to node.no inside (inside-continuation (length nodes) from node.no (ascends from node is).1) e))

  pub past-reached : (to : Next) → ComesPast nodes rule to → IsReached Past nodes rule (rooted nodes) (place_of to (length nodes))
  past-reached to (Begins to' e) =
      subst (IsReached Past nodes rule (rooted nodes)) (sym (ap (λ (x : Next). place_of x (length nodes)) e ∙ root-place nodes)) (Given 0 root-marked)
  past-reached to (Passes from to' node r is other (inl e)) =
      subst (λ (x : Next). IsReached Past nodes rule (rooted nodes) (place_of x (length nodes))) (sym e)
      (ByYes from node (past-reached (next.Node from) r) is (ap (λ (b : Bool). not b) (ne_eqb node.rule rule other)))
  past-reached to (Passes from to' node r is other (inr e)) =
      subst (λ (x : Next). IsReached Past nodes rule (rooted nodes) (place_of x (length nodes))) (sym e)
      (ByNo from node (past-reached (next.Node from) r) is (ap (λ (b : Bool). not b) (ne_eqb node.rule rule other)))

pub untried-where : (nodes : List Node) (rule : ℕ) (begin marks : List Bool) (b : Bool) → Ascends nodes → begin ≡ rooted nodes → IsSwept Past nodes rule begin marks → length marks ≡ length nodes + 1
    → b ≡ slice_index_or marks (length nodes) b → IsTrue b ↔ MayBeUntried nodes rule
untried-where nodes rule begin marks b ascends is swept long found =
    let here : b ≡ at marks (length nodes) = found ∙ get_or_default marks (length nodes) b false (omega (arith, long)) in
    let all = subst (λ (xs : List Bool). IsSwept Past nodes rule xs marks) is swept in (
      λ h. reached-past nodes rule ascends (length nodes) ((all (length nodes)).0 (sym here ∙ h)) next.End tt refl,
      λ m. here ∙ (all (length nodes)).1 (past-reached nodes rule ascends next.End m),
    )

-- where a node goes on there is a place
pub inside-place : (nodes : List Node) (i : ℕ) (node : Node) (marks : List Bool) → Ascends nodes → slice_get nodes i ≡ Some node → length marks ≡ length nodes + 1
    → (place_of node.yes (length nodes) < length marks) × (place_of node.no (length nodes) < length marks)
inside-place nodes i node marks ascends is long =
    let here = slice_get_within nodes i node is in
    let y = further (length nodes) i node.yes here (ascends i node is).0 in
    let z = further (length nodes) i node.no here (ascends i node is).1 in
    (omega (arith, y.1, long), omega (arith, z.1, long))
