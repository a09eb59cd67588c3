-- One cycle: whole rules, one after another in scheduler order, after the one-rule-at-a-time semantics of Kôika
-- (Bourgeat et al., PLDI 2020), given what each rule does alone. Pairs of events are looked at after a rule has run;
-- no log is read inside a rule.
use Rattle.std.specs.Prelude.{ℕ, Bool, true, false, not, ◌==◌, ◌&&◌, List, [], ◌∷◌, ◌++◌, length, map, Option, Some, None, slice_get, if◌then◌else◌}
use Rattle.std.specs.List.{list_any, range_with_len}
use Rattle.kw_bits.specs.BitVector.{BitVector}
use Rattle.typed_core.specs.Alone.{alone, after}
use Rattle.typed_core.specs.Clash.{clashes}
use Rattle.typed_core.specs.Evaluation.{Environment}
use Rattle.typed_core.specs.Valid.{externs_of}
use Rattle.typed_core.specs.declared.access.Access.{Access}
use Rattle.typed_core.specs.declared.access.Event.{Event}
use Rattle.typed_core.specs.declared.outcome.Alone.{Alone}
use Rattle.typed_core.specs.declared.outcome.Outcome.{Outcome}
use Rattle.typed_core.specs.declared.outcome.Outcome.TheVariants.{Done, Abort, OwnClash}
use Rattle.typed_core.specs.declared.design.Rule.{Rule}
use Rattle.typed_core.specs.declared.design.Node.{Node}
use Rattle.typed_core.specs.declared.design.Parts.{Parts}
use Rattle.one_rule.specs.Walk.{Firing, Walk, walk_from}
use Rattle.one_rule.specs.declared.cycle.Fired.{Fired}
use Rattle.one_rule.specs.declared.cycle.State.{State}
use Rattle.one_rule.specs.declared.rows.Row.{Row}

-- ---- rules and a scheduler

-- how many rules there are, what each of them does alone on inputs and registers, and the scheduler's nodes
pub record System : Type 0 where
  pub rules : ℕ
  pub alone : ℕ → List BitVector → List BitVector → Alone
  pub nodes : List Node

-- what a rule of a design does alone, if there is one of the number
abbrev pub alone_if : Environment → List BitVector → Option Rule → Alone
alone_if env regs (Some rule) = alone env regs rule.body
alone_if env regs None = record { events = []; outcome = Done }

-- what a design's rules are evaluated in
abbrev pub environment : Parts → List BitVector → Environment
environment design inputs = record { externs = externs_of design; inputs = inputs }

-- a design's rules and its scheduler
abbrev pub system_of : Parts → System
system_of design =
    record {
      rules = length design.rules;
      alone = λ rule inputs regs. alone_if (environment design inputs) regs (slice_get design.rules rule);
      nodes = design.nodes;
    }

-- ---- firing

-- whether a rule that ran alone came to its end
abbrev pub is_done : Outcome → Bool
is_done Done = true
is_done Abort = false
is_done (OwnClash access) = false

-- one of the events clashes with an earlier access
abbrev pub clash_with_access : List Event → Access → Bool
clash_with_access events earlier = list_any (λ (e : Event). clashes e.access earlier) events

-- one of the events clashes with one of an earlier rule's
abbrev pub clash_with_events : List Event → List Event → Bool
clash_with_events events earlier = list_any (λ (e : Event). clash_with_access events e.access) earlier

-- one of the events clashes with one of a rule that fired before
abbrev pub clash_with : List Event → List Fired → Bool
clash_with events past = list_any (λ (f : Fired). clash_with_events events f.events) past

-- a rule fires where it runs to its end and none of its events clashes with one of an earlier fired rule
abbrev pub fires : List Fired → Alone → Bool
fires past run = is_done run.outcome && not (clash_with run.events past)

-- a rule that fires leaves the registers that it leaves by running whole, and joins those that fired
abbrev pub join : State → ℕ → List Event → State
join state rule events =
    record { regs = after events state.regs; past = state.past ++ record { rule = rule; events = events } ∷ [] }

-- the state after a rule that fires, if it fires: it runs alone, and clashes with no rule that fired before it
abbrev pub fire : System → List BitVector → Firing State
fire system inputs rule state =
    let run : Alone = system.alone rule inputs state.regs in
    if fires state.past run then Some (join state rule run.events) else None

-- ---- the row

-- a cycle begins on these registers, and no rule has fired
abbrev pub begin : List BitVector → State
begin regs = record { regs = regs; past = [] }

-- the end of a cycle's walk
abbrev pub walk_of : System → List BitVector → List BitVector → Walk State
walk_of system inputs regs = walk_from (fire system inputs) system.nodes (begin regs)

-- the numbers of the rules that fired
abbrev pub numbers : List Fired → List ℕ
numbers past = map (λ (f : Fired). f.rule) past

-- the rule is one of these
abbrev pub is_among : List ℕ → ℕ → Bool
is_among fired rule = list_any (λ (n : ℕ). n == rule) fired

-- one flag for each rule: whether it fired
abbrev pub flags : ℕ → List ℕ → List Bool
flags rules fired = map (is_among fired) (range_with_len 0 rules)

-- the registers at the end of a cycle, and which rules fired in it
abbrev pub cycle : System → List BitVector → List BitVector → Row
cycle system inputs regs =
    let end : State = (walk_of system inputs regs).state in
    record { regs = end.regs; fired = flags system.rules (numbers end.past) }
