-- How many nodes are open in each cycle of the window, for private functions alone.
use Rattle.std.specs.Prelude.{◌≡◌, ℕ, ◌+◌, ◌<◌, Bool, true, false, not, ◌==◌, ◌&&◌, List, length, Option, Some, None, slice_index_or, is_some}
use Rattle.std.specs.List.{count_by}
use Rattle.typed_core.specs.declared.design.Node.{Node}
use Rattle.attempt_log.specs.declared.entry.Settled.{Settled}
use Rattle.attempt_log.specs.declared.entry.Settled.TheVariants as settled
use Rattle.attempt_log.specs.declared.entry.Submitted.{Submitted}
use Rattle.attempt_log.specs.declared.entry.Submitted.TheVariants as submitted
use Rattle.board_core.specs.Kept.{Kept, slots_from}

-- the number of nodes that the rule is at
abbrev pub weight : List Node → ℕ → ℕ
weight nodes rule = count_by (λ (node : Node). node.rule == rule) nodes

-- the list has each rule's number of nodes
pub record HasWeights (nodes : List Node) (rules : ℕ) (weights : List ℕ) : Type 0 where
  pub count : length weights ≡ rules
  pub each : (rule : ℕ) → rule < rules → slice_index_or weights rule 0 ≡ weight nodes rule

-- the rule is open in the cycle: it isn't settled in it, and no attempt stands for it
abbrev pub comes_open : Kept → ℕ → ℕ → Bool
comes_open kept cycle rule =
    not ((cycle == kept.cycle) && slice_index_or kept.place.settled.items rule false) && not (is_some (slots_from kept.cycle kept.slots cycle rule))

-- the number of nodes whose rules are open in the cycle
abbrev pub count_open : Kept → ℕ → ℕ
count_open kept cycle = count_by (λ (node : Node). comes_open kept cycle node.rule) kept.opening.design.nodes

-- the list has that number for each cycle of the window
pub record HasCounts (kept : Kept) (counts : List ℕ) : Type 0 where
  pub count : length counts ≡ kept.opening.window
  pub each : (ahead : ℕ) → ahead < kept.opening.window → slice_index_or counts ahead 0 ≡ count_open kept (kept.cycle + ahead)

-- the attempt was stored
abbrev pub is_stored : Submitted → Bool
is_stored submitted.Stored = true
is_stored (submitted.Late a) = false
is_stored (submitted.Ahead a) = false
is_stored (submitted.Twice a) = false

-- the cycle was closed
abbrev pub is_closing : Settled → Bool
is_closing (settled.CycleClosed cycle) = true
is_closing (settled.Committed cycle rule) = false
is_closing (settled.Skipped cycle rule cause) = false
is_closing (settled.Stale cycle rule read) = false
is_closing (settled.Waiting cycle rule) = false
is_closing settled.Finished = false

-- the rule whose attempt was stale
abbrev pub stale_rule : Settled → Option ℕ
stale_rule (settled.Stale cycle rule read) = Some rule
stale_rule (settled.CycleClosed cycle) = None
stale_rule (settled.Committed cycle rule) = None
stale_rule (settled.Skipped cycle rule cause) = None
stale_rule (settled.Waiting cycle rule) = None
stale_rule settled.Finished = None
