-- Whether an attempt may be committed, given the present registers and the rules that fired so far in the cycle: the
-- validation of a read set, as in optimistic concurrency control (Kung and Robinson, TODS 1981), by checks of Kôika's
-- scheduler log (Bourgeat et al., PLDI 2020). Which registers the attempt was made on isn't asked.
use Rattle.std.specs.Prelude.{ℕ, Bool, true, false, ◌==◌, ◌&&◌, ◌||◌, nat_lt, List, [], ◌∷◌, ◌++◌, Option, unwrap_or, Some, None, slice_index_or, if◌then◌else◌}
use Rattle.kw_bits.specs.BitVector.{BitVector}
use Rattle.typed_core.specs.Alone.{seen}
use Rattle.typed_core.specs.Clash.{clashes}
use Rattle.typed_core.specs.Evaluation.{unit}
use Rattle.typed_core.specs.declared.access.Access.{Access}
use Rattle.typed_core.specs.declared.access.Event.{Event}
use Rattle.typed_core.specs.declared.outcome.Alone.{Alone}
use Rattle.typed_core.specs.declared.outcome.Outcome.{Outcome}
use Rattle.typed_core.specs.declared.outcome.Outcome.TheVariants as ends
use Rattle.one_rule.specs.declared.cycle.Fired.{Fired}
use Rattle.attempt_log.specs.declared.cause.Cause.{Cause}
use Rattle.attempt_log.specs.declared.cause.Cause.TheVariants as cause
use Rattle.attempt_log.specs.declared.cause.StaleRead.{StaleRead}
use Rattle.attempt_log.specs.declared.cause.Verdict.{Verdict}
use Rattle.attempt_log.specs.declared.cause.Verdict.TheVariants.{Commit, Skip, Stale}

-- ---- clashes

-- the order in which accesses of a register are named: reads before writes, lower ports before higher ones
abbrev pub kind_before : Bool → ℕ → Bool → ℕ → Bool
kind_before false i false j = nat_lt i j
kind_before false i true j = true
kind_before true i false j = false
kind_before true i true j = nat_lt i j

-- of an access and another, if there is another, the one that is named first
abbrev pub named_first : Access → Option Access → Access
named_first a None = a
named_first a (Some b) = if kind_before b.write b.port a.write a.port then b else a

-- the first of these events' accesses that the access clashes with
abbrev pub first_clash : Access → List Event → Option Access
first_clash access [] = None
first_clash access (e ∷ events) =
    if clashes access e.access then Some (named_first e.access (first_clash access events)) else first_clash access events

-- a clash with this rule, or else what is next
abbrev pub clash_or : Access → ℕ → Option Access → Option Cause → Option Cause
clash_or access rule (Some earlier) next = Some (cause.Clash access rule earlier)
clash_or access rule None next = next

-- the clash of the access with the earliest rule that fired and has an access in its way
abbrev pub clash : Access → List Fired → Option Cause
clash access [] = None
clash access (f ∷ fired) = clash_or access f.rule (first_clash access f.events) (clash access fired)

-- ---- reads

-- two bit vectors are equal
abbrev pub is_same : BitVector → BitVector → Bool
is_same a b = (a.width == b.width) && (a.number == b.number)

-- what an access would read now, after these events of its own rule
abbrev pub answer_now : List BitVector → List Event → Access → BitVector
answer_now regs before access = seen access.port access.register before (slice_index_or regs access.register unit)

-- a read is stale where its value isn't its answer now
abbrev pub staleness : BitVector → Event → Option StaleRead
staleness now e =
    if e.access.write || is_same e.value now then None
    else Some (record { register = e.access.register; port = e.access.port; held = e.value; now = now })

-- ---- the verdict

-- what an event decides, if anything: to skip at a clash, else to drop the attempt at a stale read
abbrev pub decision : Option Cause → Option StaleRead → Option Verdict
decision (Some found) stale = Some (Skip found)
decision None (Some stale) = Some (Stale stale)
decision None None = None

-- what the outcome decides where no event does
abbrev pub at_end : Outcome → Verdict
at_end ends.Done = Commit
at_end ends.Abort = Skip cause.Abort
at_end (ends.OwnClash access) = Skip (cause.OwnClash access)

-- the first event that decides does, and else the outcome
abbrev pub verdict_from : List BitVector → List Fired → List Event → List Event → Outcome → Verdict
verdict_from regs fired before [] outcome = at_end outcome
verdict_from regs fired before (e ∷ events) outcome =
    unwrap_or (decision (clash e.access fired) (staleness (answer_now regs before e.access) e)) (verdict_from regs fired (before ++ e ∷ []) events outcome)

-- the verdict on what a rule gave, with these registers and these rules that fired
abbrev pub verdict : List BitVector → List Fired → Alone → Verdict
verdict regs fired run = verdict_from regs fired [] run.events run.outcome
