-- What checking a whole tree returns: the design with every name resolved, or the first fault. Declarations in order
-- of the text, then the schedule, then the limits in their order. This project's own rules.
use Rattle.std.specs.Prelude.{ℕ, nat_le, List, [], ◌∷◌, ◌++◌, map, Option, Some, None, slice_get}
use Rattle.std.specs.List.{flat_map}
use Rattle.kw_base.specs.declared.fault_number.TheConstants.{TOO_MANY_REGISTERS, TOO_MANY_RULES, TOO_MANY_INPUTS, TOO_MANY_NODES, TOO_HEAVY, TOO_DEEP}
use Rattle.koika_syntax.specs.declared.tree.Choice.{Choice-F}
use Rattle.koika_syntax.specs.declared.tree.Declaration.{Declaration}
use Rattle.koika_syntax.specs.declared.tree.Declaration.TheVariants as declarations
use Rattle.koika_syntax.specs.declared.tree.Name.{Name}
use Rattle.koika_syntax.specs.declared.tree.Scheduler.{Scheduler, Scheduler-F, fold-Scheduler}
use Rattle.koika_syntax.specs.declared.tree.Tree.{Tree}
use Rattle.typed_core.specs.declared.limits.TheConstants.{MAX_REGISTERS, MAX_RULES, MAX_INPUTS, MAX_NODES}
use Rattle.kw_bits.specs.declared.host.HostSpec.{HostSpec}
use Rattle.koika_check.specs.Declarations.{declare, nothing}
use Rattle.koika_check.specs.Outcomes.{Condition, CheckResult, ◌>>=◌, earlier, first, holds, one_by_one, unless, wrong}
use Rattle.koika_check.specs.Schedule.{scheduler_nodes}
use Rattle.koika_check.specs.Sizes.{Size, design_size}
use Rattle.koika_check.specs.declared.checked.Checked.{Checked}
use Rattle.koika_check.specs.declared.measure.TheConstants.{MAX_WEIGHT, MAX_DEPTH}

-- ---- limits

-- where the names of registers, rules and inputs stand
abbrev pub register_place : Declaration → List ℕ
register_place (declarations.Register n of first) = n.place ∷ []
register_place declaration = []

-- the place of a rule's name
abbrev pub rule_place : Declaration → List ℕ
rule_place (declarations.Rule n body) = n.place ∷ []
rule_place declaration = []

-- the place of an input's name
abbrev pub input_place : Declaration → List ℕ
input_place (declarations.Input n of) = n.place ∷ []
input_place declaration = []

-- where the names of rules are in a scheduler, in order of the text
abbrev pub places_of : List Name → List ℕ
places_of = map (λ (n : Name). n.place)

-- some places, or none
abbrev pub places_if : Option (List ℕ) → List ℕ
places_if None = []
places_if (Some places) = places

-- the places of the rules in a `try`
abbrev pub places_in_choice : Choice-F (List ℕ) (List ℕ) → List ℕ
places_in_choice choice = choice.rule.place ∷ choice.then ++ choice.otherwise

-- the places of the rules in a scheduler
abbrev pub places_in_scheduler : Scheduler-F (List ℕ) (List ℕ) → List ℕ
places_in_scheduler scheduler = places_of scheduler.rules ++ places_if scheduler.last

-- the places of all rules that a scheduler names, in order of the text
unfoldable pub scheduler_places : Scheduler → List ℕ
scheduler_places = fold-Scheduler (List ℕ) (List ℕ) places_in_choice places_in_scheduler

-- there are at most that many places, or the fault is at the first one too many
abbrev pub surplus : (number : ℕ) → Option ℕ → Condition
surplus number None = None
surplus number (Some place) = Some (wrong number place)

-- a number is within its limit, else the fault at the first place beyond it
abbrev pub at_most : (limit number : ℕ) → (places : List ℕ) → Condition
at_most limit number places = surplus number (slice_get places limit)

-- the numbers of registers, rules, inputs and nodes, and then the weight and the depth, in this order
abbrev pub counts_within : Tree → Condition
counts_within tree = first
    (at_most MAX_REGISTERS TOO_MANY_REGISTERS (flat_map register_place tree.declarations)
    ∷ at_most MAX_RULES TOO_MANY_RULES (flat_map rule_place tree.declarations)
    ∷ at_most MAX_INPUTS TOO_MANY_INPUTS (flat_map input_place tree.declarations)
    ∷ at_most MAX_NODES TOO_MANY_NODES (scheduler_places tree.scheduler)
    ∷ [])

-- a design's weight and depth are within their limits
abbrev pub size_within : (schedule : ℕ) → Size → Condition
size_within schedule size = first
    (holds (nat_le size.weight MAX_WEIGHT) (wrong TOO_HEAVY schedule)
    ∷ holds (nat_le size.depth MAX_DEPTH) (wrong TOO_DEEP schedule)
    ∷ [])

-- a design is within all limits
abbrev pub limits : Tree → Size → Condition
limits tree size = earlier (counts_within tree) (size_within tree.schedule size)

-- ---- whole trees

-- a design with these nodes, within the limits
abbrev pub within_limits : Tree → Checked → CheckResult Checked
within_limits tree d = unless (limits tree (design_size d)) (record d { weight = (design_size d).weight })

-- a design with its scheduler's nodes, within the limits
abbrev pub scheduled : Tree → Checked → CheckResult Checked
scheduled tree d = scheduler_nodes tree.scheduler d [] 0 >>= λ nodes. within_limits tree (record d { nodes = nodes })

-- what checking a tree returns, given the host functions that are handed in
abbrev pub checked : List HostSpec → Tree → CheckResult Checked
checked hosts tree = one_by_one (declare hosts) tree.declarations nothing >>= scheduled tree
