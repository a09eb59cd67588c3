-- The scheduler's nodes, numbered in order of the text: a rule, and where the scheduler goes on where it fires and
-- where it doesn't. A name that is no rule is 20, and a rule that occurs twice on a path from the root is 27, each at
-- its name. After the scheduler of Kôika (Bourgeat et al., PLDI 2020).
use Rattle.std.specs.Prelude.{ℕ, ◌+◌, not, nat_eq, Bool, List, [], ◌∷◌, ◌++◌, length, drop, Option, Some, None}
use Rattle.std.specs.List.{list_any}
use Rattle.kw_base.specs.declared.fault_number.TheConstants.{UNKNOWN_NAME, RULE_TWICE_ON_A_PATH}
use Rattle.koika_syntax.specs.declared.tree.Choice.{Choice-F}
use Rattle.koika_syntax.specs.declared.tree.Name.{Name}
use Rattle.koika_syntax.specs.declared.tree.Scheduler.{Scheduler, Scheduler-F, fold-Scheduler}
use Rattle.typed_core.specs.declared.design.Next.{Next}
use Rattle.typed_core.specs.declared.design.Next.TheVariants as next
use Rattle.typed_core.specs.declared.design.Node.{Node}
use Rattle.koika_check.specs.Outcomes.{CheckResult, ◌>>=◌, Gives, found, holds, one_by_one, where_all, wrong}
use Rattle.koika_check.specs.declared.checked.Checked.{Checked}
use Rattle.koika_check.specs.Kinds.{number_named}
use Rattle.koika_check.specs.declared.things.Kind.TheVariants as kind

-- ---- paths

-- a rule stands on a path
abbrev pub is_on : ℕ → (path : List ℕ) → Bool
is_on rule path = list_any (nat_eq rule) path

-- a name after a path: a rule (20) that isn't on the path (27)
abbrev pub tried : Checked → (path : List ℕ) → Name → CheckResult ℕ
tried d path n = found (number_named kind.Rule d n.text) (wrong UNKNOWN_NAME n.place) >>= λ rule.
    where_all (holds (not (is_on rule path)) (wrong RULE_TWICE_ON_A_PATH n.place) ∷ []) rule

-- the path after names that stand one after another
abbrev pub longer : Checked → Name → (path : List ℕ) → CheckResult (List ℕ)
longer d n path = tried d path n >>= λ rule. Gives (path ++ rule ∷ [])

-- a path with these rules at its end, none of which is on it already
abbrev pub path_behind : Checked → List Name → (path : List ℕ) → CheckResult (List ℕ)
path_behind d = one_by_one (longer d)

-- ---- nodes

-- a scheduler's nodes after a path, where the first of them has this number
abbrev pub Nodes : Type 0
Nodes = Checked → (path : List ℕ) → (number : ℕ) → CheckResult (List Node)

-- the first of these nodes, which has this number, or the end where there is none
abbrev pub first_of : List Node → (number : ℕ) → Next
first_of [] number = next.End
first_of (node ∷ nodes) number = next.Node number

-- a node in front of others: whether its rule fires or not, the next is tried
abbrev pub in_front : (number rule : ℕ) → (behind : List Node) → List Node
in_front number rule behind = record { rule = rule; yes = first_of behind (number + 1); no = first_of behind (number + 1) } ∷ behind

-- rules one after another, in front of other nodes
abbrev pub in_a_row : (number : ℕ) → (rules : List ℕ) → (behind : List Node) → List Node
in_a_row number [] behind = behind
in_a_row number (rule ∷ rules) behind = in_front number rule (in_a_row (number + 1) rules behind)

-- a rule with one scheduler after it where it fires, and one where it doesn't
abbrev pub nodes_of_choice : Choice-F Nodes Nodes → Nodes
nodes_of_choice choice d path number = tried d path choice.rule >>= λ rule.
    choice.then d (path ++ rule ∷ []) (number + 1) >>= λ taken.
    choice.otherwise d (path ++ rule ∷ []) (number + 1 + length taken) >>= λ other.
    Gives (record { rule = rule; yes = first_of taken (number + 1); no = first_of other (number + 1 + length taken) } ∷ taken ++ other)

-- what is at the end of a scheduler, if anything is
abbrev pub at_the_end : Option Nodes → Nodes
at_the_end None d path number = Gives []
at_the_end (Some last) d path number = last d path number

-- rules one after another, and what is after them
abbrev pub nodes_of_scheduler : Scheduler-F Nodes Nodes → Nodes
nodes_of_scheduler scheduler d path number = path_behind d scheduler.rules path >>= λ behind.
    at_the_end scheduler.last d behind (number + length scheduler.rules) >>= λ nodes.
    Gives (in_a_row number (drop (length path) behind) nodes)

-- the nodes of a scheduler
unfoldable pub scheduler_nodes : Scheduler → Nodes
scheduler_nodes = fold-Scheduler Nodes Nodes nodes_of_choice nodes_of_scheduler
