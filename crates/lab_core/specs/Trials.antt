-- The trials of a cycle: what each rule that the scheduler visits does there, and whether it fires or why not, after
-- the one-rule-at-a-time semantics of Kôika (Bourgeat et al., PLDI 2020). A trial is of a whole rule on the state that
-- the walk finds. How trials are written is no matter of this file.
use Rattle.std.specs.Prelude.{ℕ, ◌+◌, Bool, not, ◌==◌, List, [], ◌∷◌, ◌++◌, Option, Some, None, is_some, if◌then◌else◌}
use Rattle.std.specs.List.{filter, list_any, range_with_len}
use Rattle.std.specs.Option.{option_or}
use Rattle.kw_bits.specs.BitVector.{BitVector}
use Rattle.typed_core.specs.declared.access.Event.{Event}
use Rattle.typed_core.specs.declared.design.Node.{Node}
use Rattle.typed_core.specs.declared.outcome.Alone.{Alone}
use Rattle.typed_core.specs.declared.outcome.Outcome.{Outcome}
use Rattle.typed_core.specs.declared.outcome.Outcome.TheVariants as outcome
use Rattle.one_rule.specs.Cycle.{System, begin, fire, fires}
use Rattle.one_rule.specs.Walk.{Walk, pass, start}
use Rattle.typed_core.specs.Continuations.{is_at}
use Rattle.one_rule.specs.declared.cycle.Fired.{Fired}
use Rattle.one_rule.specs.declared.cycle.State.{State}
use Rattle.attempt_log.specs.Verdict.{clash}
use Rattle.attempt_log.specs.declared.cause.Cause.{Cause}
use Rattle.attempt_log.specs.declared.cause.Cause.TheVariants as cause
use Rattle.lab_core.specs.declared.trial.Trial.{Trial}
use Rattle.lab_core.specs.declared.trial.TrialVerdict.{TrialVerdict}
use Rattle.lab_core.specs.declared.trial.TrialVerdict.TheVariants as verdict

-- the clash of the first event that clashes with a rule that fired before
abbrev pub clash_among : List Fired → List Event → Option Cause
clash_among past [] = None
clash_among past (e ∷ events) = option_or (clash e.access past) (clash_among past events)

-- the events before that one, and all where there is none
abbrev pub unclashed : List Fired → List Event → List Event
unclashed past [] = []
unclashed past (e ∷ events) = if is_some (clash e.access past) then [] else e ∷ unclashed past events

-- why a rule doesn't fire: its clash, or else how it ended; with neither it fires
abbrev pub refused : Option Cause → Outcome → TrialVerdict
refused (Some found) ending = verdict.Refused found
refused None outcome.Abort = verdict.Refused cause.Abort
refused None (outcome.OwnClash access) = verdict.Refused (cause.OwnClash access)
refused None outcome.Done = verdict.Fired

-- whether a rule that does this alone fires after these rules, or why not
abbrev pub verdict_of : List Fired → Alone → TrialVerdict
verdict_of past run = if fires past run then verdict.Fired else refused (clash_among past run.events) run.outcome

-- the trial of a rule on a state of the walk
abbrev pub trial_of : System → List BitVector → ℕ → State → Trial
trial_of system inputs rule state =
    let run : Alone = system.alone rule inputs state.regs in
    record { rule = rule; verdict = verdict_of state.past run; events = unclashed state.past run.events }

-- the trial at a node, if the walk visits it
abbrev pub trial_at : System → List BitVector → ℕ → Node → Walk State → List Trial
trial_at system inputs number node walk = if is_at number walk.at then trial_of system inputs node.rule walk.state ∷ [] else []

-- the trials at these nodes, the first of them of this number, in the order of the walk
abbrev pub trials_past : System → List BitVector → ℕ → List Node → Walk State → List Trial
trials_past system inputs number [] walk = []
trials_past system inputs number (node ∷ nodes) walk =
    trial_at system inputs number node walk ++ trials_past system inputs (number + 1) nodes (pass (fire system inputs) number node walk)

-- the trials of the cycle with these inputs and registers
abbrev pub trials : System → List BitVector → List BitVector → List Trial
trials system inputs regs = trials_past system inputs 0 system.nodes (start system.nodes (begin regs))

-- the rule has a trial
abbrev pub is_tried : List Trial → ℕ → Bool
is_tried tried rule = list_any (λ (t : Trial). t.rule == rule) tried

-- of that many rules those without a trial, in order of declaration
abbrev pub untried : ℕ → List Trial → List ℕ
untried rules tried = filter (λ rule. not (is_tried tried rule)) (range_with_len 0 rules)
