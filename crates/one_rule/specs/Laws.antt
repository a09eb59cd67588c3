-- What holds of every cycle and every run, after the one-rule-at-a-time semantics of Kôika (Bourgeat et al.,
-- PLDI 2020). It adds nothing to what a cycle and a run are.
use Rattle.std.specs.Prelude.{◌≡◌, ◌≢◌, ℕ, ◌+◌, ◌-◌, ◌≤◌, ◌⊎◌, true, false, List, ◌∷◌, ◌++◌, drop, length, take, slice_get, slice_index_or, AllPairs, Any, Contains, Some}
use Rattle.std.specs.List.{AllByRecursion}
use Rattle.kw_bits.specs.BitVector.{BitVector}
use Rattle.typed_core.specs.Clash.{clashes}
use Rattle.typed_core.specs.Fits.{EventsFit}
use Rattle.typed_core.specs.Same.{SameDesign}
use Rattle.typed_core.specs.Valid.{AreNodes, IsPath, IsValid, TriesNoneTwice}
use Rattle.typed_core.specs.Widths.{HaveWidths, input_widths, register_widths}
use Rattle.typed_core.specs.declared.access.Access.{Access}
use Rattle.typed_core.specs.declared.access.Event.{Event}
use Rattle.typed_core.specs.declared.outcome.Alone.{Alone}
use Rattle.typed_core.specs.declared.outcome.Outcome.TheVariants.{Abort, OwnClash}
use Rattle.typed_core.specs.declared.design.Next.TheVariants as next
use Rattle.typed_core.specs.declared.design.Node.{Node}
use Rattle.typed_core.specs.declared.design.Parts.{Parts}
use Rattle.one_rule.specs.Cycle.{System, begin, cycle, fire, fires, is_among, numbers, system_of, walk_of}
use Rattle.one_rule.specs.PortRun.{port_cycle}
use Rattle.one_rule.specs.Rows.{RowsFit}
use Rattle.one_rule.specs.Run.{InputsByCycle, last_registers, run, run_of}
use Rattle.one_rule.specs.Stimulus.{AlwaysFits, InputVectors, StimulusFits, inputs_of}
use Rattle.one_rule.specs.Walk.{Walk, start, walk_past}
use Rattle.typed_core.specs.Continuations.{is_at}
use Rattle.one_rule.specs.declared.cycle.Fired.{Fired}
use Rattle.one_rule.specs.declared.cycle.State.{State}
use Rattle.one_rule.specs.declared.rows.Row.{Row}

-- the scheduler is valid: each node tries a rule that there is and goes on to greater numbers, and no rule occurs twice
-- on a path
pub record IsScheduled (system : System) : Type 0 where
  pub nodes : AreNodes system.rules system.nodes
  pub once : TriesNoneTwice system.nodes

-- ---- the walk

-- the walk through a cycle reaches the end of its path
abbrev pub WalksEnd : Type 0
WalksEnd = (system : System) (inputs regs : List BitVector) → IsScheduled system → (walk_of system inputs regs).at ≡ next.End

-- the two that fired are of different rules
abbrev pub AreOfDifferentRules : Fired → Fired → Type 0
AreOfDifferentRules a b = a.rule ≢ b.rule

-- no rule fires twice in a cycle
abbrev pub FiresOnce : Type 0
FiresOnce = (system : System) (inputs regs : List BitVector) → IsScheduled system → AllPairs AreOfDifferentRules (walk_of system inputs regs).state.past

-- the node of this number tries the rule
abbrev pub Tries : List Node → ℕ → ℕ → Type 0
Tries nodes number rule = (node : Node) × (slice_get nodes number ≡ Some node) × (node.rule ≡ rule)

-- a node on some path from the root tries the rule
abbrev pub IsOnPath : List Node → ℕ → Type 0
IsOnPath nodes rule = (path : List ℕ) × (number : ℕ) × IsPath nodes 0 path × Contains (0 ∷ path) number × Tries nodes number rule

-- the row says that the rule did not fire
abbrev pub IsIdle : ℕ → Row → Type 0
IsIdle rule row = slice_index_or row.fired rule false ≡ false

-- a rule that is on no path from the root fires in no cycle
abbrev pub FiresOnPath : Type 0
FiresOnPath = (system : System) (inputs regs : List BitVector) (rule : ℕ) → IsScheduled system → ¬ IsOnPath system.nodes rule → IsIdle rule (cycle system inputs regs)

-- and in no run
abbrev pub FiresOnPathInRuns : Type 0
FiresOnPathInRuns = (system : System) (inputs : InputsByCycle) (regs : List BitVector) (from to rule : ℕ) → IsScheduled system → ¬ IsOnPath system.nodes rule → AllByRecursion (IsIdle rule) (run system inputs regs from to)

-- ---- what blocks a rule

-- an event clashes with an earlier one of a rule that fired
abbrev pub HasClash : List Event → List Fired → Type 0
HasClash events past = Any (λ (f : Fired). Any (λ (earlier : Event). Any (λ (e : Event). clashes e.access earlier.access ≡ true) events) f.events) past

-- a rule that does this alone is blocked: it aborts, or makes a write that its own events refuse, or has an event that
-- clashes with one of a rule that fired before
abbrev pub IsBlocked : List Fired → Alone → Type 0
IsBlocked past run = (run.outcome ≡ Abort) ⊎ ((access : Access) × (run.outcome ≡ OwnClash access)) ⊎ HasClash run.events past

-- a rule that doesn't fire is blocked
abbrev pub FiresUnlessBlocked : Type 0
FiresUnlessBlocked = (past : List Fired) (run : Alone) → fires past run ≡ false → IsBlocked past run

-- one that fires isn't
abbrev pub FiresUnblocked : Type 0
FiresUnblocked = (past : List Fired) (run : Alone) → fires past run ≡ true → ¬ IsBlocked past run

-- the walk as it comes past the nodes before the one of this number
abbrev pub walk_to : System → List BitVector → List BitVector → ℕ → Walk State
walk_to system inputs regs number = walk_past (fire system inputs) 0 (take number system.nodes) (start system.nodes (begin regs))

-- a rule that the scheduler visits in a cycle and that doesn't fire in it is blocked where it is visited
abbrev pub VisitFiresUnlessBlocked : Type 0
VisitFiresUnlessBlocked = (system : System) (inputs regs : List BitVector) (number : ℕ) (node : Node) → slice_get system.nodes number ≡ Some node
    → let walk = walk_to system inputs regs number in
    is_at number walk.at ≡ true → is_among (numbers (walk_of system inputs regs).state.past) node.rule ≡ false
    → IsBlocked walk.state.past (system.alone node.rule inputs walk.state.regs)

-- ---- rows

-- a run has one row for its start and one for each of its cycles
abbrev pub RowsAreCycles : Type 0
RowsAreCycles = (system : System) (inputs : InputsByCycle) (regs : List BitVector) (from to : ℕ) → length (run system inputs regs from to) ≡ to - from + 1

-- each row of a run of a valid design fits it, where the inputs of each of its cycles do
abbrev pub RunsFit : Type 0
RunsFit = (design : Parts) (inputs : InputsByCycle) (cycles : ℕ) → IsValid design → ((k : ℕ) → 1 ≤ k → k ≤ cycles → HaveWidths (input_widths design) (inputs k)) → RowsFit design (run_of design inputs cycles)

-- a stimulus for the inputs of a design gives them values of their widths in every cycle
abbrev pub StimuliFit : Type 0
StimuliFit = (design : Parts) (stimulus : InputVectors) → StimulusFits design stimulus → AlwaysFits stimulus → (k : ℕ) → HaveWidths (input_widths design) (inputs_of stimulus k)

-- A run is made in parts: the run up to a cycle, and then the run from there on its last registers, without the row
-- that this one begins with.
abbrev pub RunsInParts : Type 0
RunsInParts = (system : System) (inputs : InputsByCycle) (regs : List BitVector) (a b c : ℕ) → a ≤ b → b ≤ c
    → let first = run system inputs regs a b in
    run system inputs regs a c ≡ first ++ drop 1 (run system inputs (last_registers regs first) b c)

-- ---- systems that do the same

-- With inputs and registers of these widths, the rules of both systems do the same alone and note events that fit the
-- registers. The scheduler and the number of rules are the same.
pub record DoTheSameAlone (inputs registers : List ℕ) (a b : System) : Type 0 where
  pub rules : a.rules ≡ b.rules
  pub nodes : a.nodes ≡ b.nodes
  pub alone : (rule : ℕ) (values regs : List BitVector) → HaveWidths inputs values → HaveWidths registers regs → a.alone rule values regs ≡ b.alone rule values regs
  pub events : (rule : ℕ) (values regs : List BitVector) → HaveWidths inputs values → HaveWidths registers regs → EventsFit registers (a.alone rule values regs).events

-- such systems have equal cycles
abbrev pub SameCycles : Type 0
SameCycles = (inputs registers : List ℕ) (a b : System) (values regs : List BitVector) → DoTheSameAlone inputs registers a b → HaveWidths inputs values → HaveWidths registers regs → cycle a values regs ≡ cycle b values regs

-- and equal runs
abbrev pub SameRuns : Type 0
SameRuns = (inputs registers : List ℕ) (a b : System) (values : InputsByCycle) (regs : List BitVector) (from to : ℕ) → DoTheSameAlone inputs registers a b → ((k : ℕ) → HaveWidths inputs (values k)) → HaveWidths registers regs → run a values regs from to ≡ run b values regs from to

-- designs that are equal by value have equal cycles
abbrev pub EqualDesignsCycleAlike : Type 0
EqualDesignsCycleAlike = (d e : Parts) (inputs regs : List BitVector) → SameDesign d e → cycle (system_of d) inputs regs ≡ cycle (system_of e) inputs regs

-- and equal runs
abbrev pub EqualDesignsRunAlike : Type 0
EqualDesignsRunAlike = (d e : Parts) (inputs : InputsByCycle) (regs : List BitVector) (from to : ℕ) → SameDesign d e → run (system_of d) inputs regs from to ≡ run (system_of e) inputs regs from to

-- ---- port runs

-- the cycle made of port runs, each of a rule that fires joining the scheduler log, leaves the cycle's row
abbrev pub PortCyclesAreCycles : Type 0
PortCyclesAreCycles = (design : Parts) (inputs regs : List BitVector) → IsValid design → HaveWidths (input_widths design) inputs → HaveWidths (register_widths design) regs → port_cycle design inputs regs ≡ cycle (system_of design) inputs regs
