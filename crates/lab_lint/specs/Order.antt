-- Which rules may have fired before a rule is tried, and which rules a cycle may pass by, by the scheduler's nodes
-- alone: on some path, whatever the rules do.
use Rattle.std.specs.Prelude.{◌≡◌, ◌≢◌, ◌⊎◌, ◌↔◌, ℕ, Bool, ◌==◌, List, Some, slice_get, IsTrue}
use Rattle.std.specs.List.{list_any}
use Rattle.typed_core.specs.Valid.{LeadsTo}
use Rattle.typed_core.specs.declared.design.Next.{Next}
use Rattle.typed_core.specs.declared.design.Next.TheVariants as next
use Rattle.typed_core.specs.declared.design.Node.{Node}
use Rattle.one_rule.specs.Laws.{Tries}
use Rattle.typed_core.specs.Continuations.{root}

-- some node tries the rule
abbrev pub is_scheduled : List Node → (rule : ℕ) → Bool
is_scheduled nodes rule = list_any (λ (n : Node). n.rule == rule) nodes

-- The rule may have fired before the scheduler comes to the node of this number: the node is the `yes` of one of the
-- rule's nodes, or is reached from there by steps `yes` and `no`.
pub data MayHaveFired (nodes : List Node) (rule : ℕ) : ℕ → Type 0 where
  Fires : (from to : ℕ) (node : Node) → slice_get nodes from ≡ Some node → node.rule ≡ rule
      → node.yes ≡ next.Node to → MayHaveFired nodes rule to
  GoesOn : (from to : ℕ) → MayHaveFired nodes rule from → LeadsTo nodes from to → MayHaveFired nodes rule to

-- one rule may have fired before another is tried
abbrev pub MayPrecede : List Node → (earlier rule : ℕ) → Type 0
MayPrecede nodes earlier rule = (number : ℕ) × Tries nodes number rule × MayHaveFired nodes earlier number

-- the scheduler may come here from its root by steps `yes` and `no` without trying the rule
pub data ComesPast (nodes : List Node) (rule : ℕ) : Next → Type 0 where
  Begins : (to : Next) → to ≡ root nodes → ComesPast nodes rule to
  Passes : (from : ℕ) (to : Next) (node : Node) → ComesPast nodes rule (next.Node from)
      → slice_get nodes from ≡ Some node → node.rule ≢ rule
      → (to ≡ node.yes) ⊎ (to ≡ node.no) → ComesPast nodes rule to

-- some path to the end tries the rule nowhere
abbrev pub MayBeUntried : List Node → (rule : ℕ) → Type 0
MayBeUntried nodes rule = ComesPast nodes rule next.End

-- tests of both
pub record Order : Type 0 where
  pub may_precede : (earlier rule : ℕ) → Bool
  pub may_be_untried : (rule : ℕ) → Bool

-- the tests are those of a scheduler with these nodes
pub record IsOrder (nodes : List Node) (order : Order) : Type 0 where
  pub may_precede : (earlier rule : ℕ) → IsTrue (order.may_precede earlier rule) ↔ MayPrecede nodes earlier rule
  pub may_be_untried : (rule : ℕ) → IsTrue (order.may_be_untried rule) ↔ MayBeUntried nodes rule
