-- The order of rules that there aren't: none of them precedes any, and each is untried.
use Rattle.std.proofs.Common.{◌≡◌, ◌≢◌, inl, inr, ℕ, zero, suc, ◌+◌, ◌<◌, ◌≤◌, Bool, true, false, List, [], ◌∷◌, ◌++◌, length, length-append, Some, refl, sym, ap, ◌∙◌, subst, arith, get_or}
use Rattle.std.proofs.Math.Seq.{get_or-append_seam}
use Rattle.std.proofs.lemmas.Bool.{cases_eq, cases_lt}
use Rattle.std.proofs.lemmas.List.{get_or_append_left, get_or_past}
use Rattle.std.specs.Prelude.{All, IsTrue, ◌↔◌, slice_get, slice_index_or}
use Rattle.std.proofs.lemmas.Option.{slice_get-get_or}
use Rattle.typed_core.specs.Paths.{Ascends}
use Rattle.typed_core.specs.Valid.{AreNodes, IsContinuation}
use Rattle.typed_core.specs.declared.design.Next.{Next}
use Rattle.typed_core.specs.declared.design.Next.TheVariants as next
use Rattle.typed_core.specs.declared.design.Node.{Node}
use Rattle.typed_core.specs.Continuations.{root}
use Rattle.lab_lint.specs.Order.{Begins, ComesPast, Fires, GoesOn, MayBeUntried, MayHaveFired, MayPrecede, Passes}

no_node : Node
no_node = record { rule = 0; yes = next.End; no = next.End }

module _ (rules : ℕ) (nodes : List Node) (valid : AreNodes rules nodes) where
  -- ---- rules that may have fired

  fired-there : (earlier number : ℕ) → MayHaveFired nodes earlier number → earlier < rules
  fired-there earlier number (Fires from to node at is leads) = subst (λ (r : ℕ). r < rules) is (valid from node at).rule
  fired-there earlier number (GoesOn from to before leads) = fired-there earlier from before

  pub precedes-there : (earlier rule : ℕ) → MayPrecede nodes earlier rule → earlier < rules
  precedes-there earlier rule may = fired-there earlier may.0 may.2

  -- ---- rules that are passed by

  module _ (rule : ℕ) (beyond : rules ≤ rule) where
    goes : (number : ℕ) (to : Next) → IsContinuation (length nodes) number to → ComesPast nodes rule to
        → ((next_one : ℕ) → number < next_one → next_one < length nodes → ComesPast nodes rule (next.Node next_one) → ComesPast nodes rule next.End)
        → ComesPast nodes rule next.End
    goes number (next.Node to) continues past further = further to continues.0 continues.1 past
    goes number next.End continues past further = past

    from-node : (fuel number : ℕ) → length nodes ≤ number + fuel → number < length nodes → ComesPast nodes rule (next.Node number) → ComesPast nodes rule next.End
    from-node zero number enough inside past = absurd (omega (arith, enough, inside))
    from-node (suc fuel) number enough inside past =
        let node : Node = get_or nodes number no_node in
        let at : slice_get nodes number ≡ Some node = slice_get-get_or nodes number no_node inside in
        let is = valid number node at in
        let other : node.rule ≢ rule = λ same. omega (arith, is.rule, beyond, same) in
        goes number node.yes is.yes (Passes number node.yes node past at other (inl refl))
        (λ to later within. from-node fuel to (omega (arith, enough, later)) within)

  from-root : (rule : ℕ) → rules ≤ rule → (ns : List Node) → ns ≡ nodes → MayBeUntried nodes rule
  from-root rule beyond [] is = Begins next.End (ap root is)
  from-root rule beyond (node ∷ ns) is =
      from-node rule beyond (length nodes) 0 (omega arith) (subst (λ (xs : List Node). 0 < length xs) is (omega arith))
      (Begins (next.Node 0) (ap root is))

  pub untried-beyond : (rule : ℕ) → rules ≤ rule → MayBeUntried nodes rule
  untried-beyond rule beyond = from-root rule beyond nodes refl

-- ---- flags of rules

-- of the first that many numbers the items are such
pub record Such {X : Type 0} (Is : ℕ → X → Type 0) (none : X) (count : ℕ) (xs : List X) : Type 0 where
  pub long : length xs ≡ count
  pub each : (k : ℕ) → k < count → Is k (slice_index_or xs k none)

pub such-none : {X : Type 0} (Is : ℕ → X → Type 0) (none : X) → Such Is none 0 []
such-none Is none = record { long = refl; each = λ k h. absurd (omega (arith, h)) }

pub such-more : {X : Type 0} (Is : ℕ → X → Type 0) (none : X) (count : ℕ) (xs next : List X) (x : X) → Such Is none count xs
    → next ≡ xs ++ x ∷ [] → Is count x → Such Is none (count + 1) next
such-more {X} Is none count xs next x before is here = record {
  long = ap length is ∙ length-append xs (x ∷ []) ∙ ap (λ (n : ℕ). n + 1) before.long;
  each = λ k within. elim (cases_eq k count) [
    | inl same ↦
        let at : slice_index_or next k none ≡ x =
        ap (λ (ys : List X). slice_index_or ys k none) is ∙ ap (λ (n : ℕ). slice_index_or (xs ++ x ∷ []) n none) (same ∙ sym before.long)
        ∙ get_or-append_seam xs x [] none in
        subst (Is k) (sym at) (subst (λ (n : ℕ). Is n x) (sym same) here)
    | inr other ↦
        let less : k < count = omega (arith, within, other) in
        let at : slice_index_or next k none ≡ slice_index_or xs k none =
        ap (λ (ys : List X). slice_index_or ys k none) is ∙ get_or_append_left xs (x ∷ []) none k (omega (arith, less, before.long)) in
        subst (Is k) (sym at) (before.each k less)
  ];
}

-- the row says before which rules a rule may have fired
abbrev pub SaysPrecede : List Node → (earlier : ℕ) → List Bool → Type 0
SaysPrecede nodes earlier row = (rule : ℕ) → IsTrue (slice_index_or row rule false) ↔ MayPrecede nodes earlier rule

-- the flag says whether a rule may be untried
abbrev pub SaysUntried : List Node → (rule : ℕ) → Bool → Type 0
SaysUntried nodes rule flag = IsTrue flag ↔ MayBeUntried nodes rule

abbrev pub PrecedeTo : List Node → (count : ℕ) → List (List Bool) → Type 0
PrecedeTo nodes = Such (SaysPrecede nodes) []

abbrev pub UntriedTo : List Node → (count : ℕ) → List Bool → Type 0
UntriedTo nodes = Such (SaysUntried nodes) true

-- all rules are known
pub precede-all : (rules : ℕ) (nodes : List Node) (all : List (List Bool)) → AreNodes rules nodes → PrecedeTo nodes rules all
    → (earlier rule : ℕ) → IsTrue (slice_index_or (slice_index_or all earlier []) rule false) ↔ MayPrecede nodes earlier rule
precede-all rules nodes all valid known earlier rule = elim (cases_lt earlier rules) [
  | inl less ↦ known.each earlier less rule
  | inr beyond ↦
      let none : slice_index_or all earlier [] ≡ [] = get_or_past all earlier [] (omega (arith, beyond, known.long)) in (
        λ h. let bad : false ≡ true = sym (ap (λ (row : List Bool). slice_index_or row rule false) none) ∙ h in absurd cc,
        λ may. absurd (omega (arith, beyond, precedes-there rules nodes valid earlier rule may)),
      )
]

pub untried-all : (rules : ℕ) (nodes : List Node) (flags : List Bool) → AreNodes rules nodes → UntriedTo nodes rules flags
    → (rule : ℕ) → IsTrue (slice_index_or flags rule true) ↔ MayBeUntried nodes rule
untried-all rules nodes flags valid known rule = elim (cases_lt rule rules) [
  | inl less ↦ known.each rule less
  | inr beyond ↦ (
    λ h. untried-beyond rules nodes valid rule beyond,
    λ may. get_or_past flags rule true (omega (arith, beyond, known.long)),
  )
]

-- ---- what is required of nodes

pub ascends : (rules : ℕ) (nodes : List Node) → AreNodes rules nodes → Ascends nodes
ascends rules nodes valid number node at = let is = valid number node at in (is.yes, is.no)

pub all-there : (rules : ℕ) (nodes : List Node) → AreNodes rules nodes → All (λ (n : Node). n.rule < rules) nodes
all-there rules nodes valid k d within = (valid k (get_or nodes k d) (slice_get-get_or nodes k d within)).rule
