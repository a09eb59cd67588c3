-- Which rules fired in trials, and how a table of the highest ports shows that an access clashes with none of them. This
-- serves private functions alone.
use Rattle.std.specs.Prelude.{◌≡◌, ℕ, ◌<◌, ◌≤◌, Bool, true, false, ◌&&◌, ◌||◌, nat_lt, List, [], ◌∷◌, ◌++◌, Option, Some, None, slice_get}
use Rattle.std.specs.List.{AllByRecursion}
use Rattle.typed_core.specs.declared.access.Access.{Access}
use Rattle.typed_core.specs.declared.access.Event.{Event}
use Rattle.one_rule.specs.declared.cycle.Fired.{Fired}
use Rattle.attempt_log.specs.Verdict.{first_clash}
use Rattle.lab_core.specs.declared.trial.Trial.{Trial}
use Rattle.lab_core.specs.declared.trial.TrialVerdict.{TrialVerdict}
use Rattle.lab_core.specs.declared.trial.TrialVerdict.TheVariants as verdict
use Rattle.lab_core.specs.declared.tried.Top.{Top}

-- ---- the rules that fired

-- a rule with its events, where this verdict says that it fired
abbrev pub fired_by : TrialVerdict → ℕ → List Event → List Fired
fired_by verdict.Fired rule events = record { rule = rule; events = events } ∷ []
fired_by (verdict.Refused c) rule events = []

-- the rules that fired in these trials
abbrev pub fired_in : List Trial → List Fired
fired_in [] = []
fired_in (t ∷ tried) = fired_by t.verdict t.rule t.events ++ fired_in tried

-- the first access of a rule that fired with which an access clashes
abbrev pub clash_by : Access → TrialVerdict → List Event → Option Access
clash_by access verdict.Fired events = first_clash access events
clash_by access (verdict.Refused c) events = None

-- the first access of a trial's rule with which an access clashes, if the rule fired
abbrev pub clash_with : Access → Trial → Option Access
clash_with access t = clash_by access t.verdict t.events

-- ---- tops

-- an access of a register at the port is under the top: a read where it isn't above, a write where it is below
abbrev pub IsUnder : Top → Bool → ℕ → Type 0
IsUnder top true port = port < top.write
IsUnder top false port = port ≤ top.read

-- the access is under the top of its register, if that has one
abbrev pub IsCovered : List Top → Access → Type 0
IsCovered tops a = (top : Top) → slice_get tops a.register ≡ Some top → IsUnder top a.write a.port

-- all accesses of the rules that fired are under the tops
abbrev pub Covers : List Top → List Fired → Type 0
Covers tops fired = AllByRecursion (λ (f : Fired). AllByRecursion (λ (e : Event). IsCovered tops e.access) f.events) fired

-- what was covered still is
abbrev pub Keeps : List Top → List Top → Type 0
Keeps old new = (a : Access) → IsCovered old a → IsCovered new a

-- an access at the port may clash with one that is under the top
abbrev pub may_meet : Option Top → Bool → ℕ → Bool
may_meet None write port = true
may_meet (Some top) write port = nat_lt port top.write || (write && nat_lt port top.read)

-- an access may clash with one that is under these tops
abbrev pub may_clash : List Top → Access → Bool
may_clash tops a = may_meet (slice_get tops a.register) a.write a.port
