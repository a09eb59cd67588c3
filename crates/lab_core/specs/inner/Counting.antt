-- How numbers grow cycle by cycle, for private functions, and how refusals are kept in a table.
use Rattle.std.specs.Prelude.{ℕ, ◌+◌, ◌<◌, List, [], ◌∷◌, map, All, Option, Some, None, if◌then◌else◌}
use Rattle.std.specs.Option.{option_or}
use Rattle.std.specs.List.{range_with_len}
use Rattle.typed_core.specs.declared.access.Access.{Access}
use Rattle.attempt_log.specs.declared.cause.Cause.{Cause}
use Rattle.attempt_log.specs.declared.cause.Cause.TheVariants as cause
use Rattle.lab_core.specs.Numbers.{Counted, RuleNumbers, same_cause, verdict_in}
use Rattle.lab_core.specs.declared.refusal.Place.{Place}
use Rattle.lab_core.specs.declared.refusal.Refusal.{Refusal}
use Rattle.lab_core.specs.declared.refusal.Refusal.TheVariants as refusal
use Rattle.lab_core.specs.declared.refusal.Seen.{Seen}
use Rattle.lab_core.specs.declared.trial.Trial.{Trial}
use Rattle.lab_core.specs.declared.trial.TrialVerdict.{TrialVerdict}
use Rattle.lab_core.specs.declared.trial.TrialVerdict.TheVariants as verdict

-- ---- refusals as keys

-- the access that a key has
abbrev pub access_at : Place → Access
access_at p = record { write = p.write; port = p.port; register = p.register }

-- the key of an access
abbrev pub place_at : Access → Place
place_at a = record { write = a.write; port = a.port; register = a.register }

-- the cause that a key has
abbrev pub cause_at : Refusal → Cause
cause_at (refusal.Own p) = cause.OwnClash (access_at p)
cause_at (refusal.Clash p rule earlier) = cause.Clash (access_at p) rule (access_at earlier)

-- the key of a cause, if it is a refusal
abbrev pub refusal_if : Cause → Option Refusal
refusal_if cause.Abort = None
refusal_if (cause.OwnClash a) = Some (refusal.Own (place_at a))
refusal_if (cause.Clash a rule earlier) = Some (refusal.Clash (place_at a) rule (place_at earlier))

-- a refusal with its numbers, by an entry of the table
abbrev pub counted_of : Refusal × Seen → Counted
counted_of e = record { cause = cause_at e.0; count = e.1.count; first = e.1.first }

-- what is kept of a refusal after a cycle in which it came
abbrev pub seen_next : ℕ → Option Seen → Seen
seen_next cycle None = record { count = 1; first = cycle }
seen_next cycle (Some s) = record { count = s.count + 1; first = s.first }

-- ---- one cycle more

-- a refusal that is there is counted once more, and a new one goes last
abbrev pub with_refusal : ℕ → Cause → List Counted → List Counted
with_refusal cycle c [] = record { cause = c; count = 1; first = cycle } ∷ []
with_refusal cycle c (x ∷ xs) =
    if same_cause c x.cause then record { cause = x.cause; count = x.count + 1; first = x.first } ∷ xs
    else x ∷ with_refusal cycle c xs

-- the first cycle that says nothing of an assertion
abbrev pub first_of : Option ℕ → ℕ → Option ℕ
first_of before cycle = option_or before (Some cycle)

-- the numbers after a cycle in which the rule is refused for this cause
abbrev pub with_cause : ℕ → RuleNumbers → Cause → RuleNumbers
with_cause cycle n cause.Abort = record n { aborted = n.aborted + 1 }
with_cause cycle n (cause.OwnClash a) =
    record n { own = n.own + 1; unwatched = first_of n.unwatched cycle; refusals = with_refusal cycle (cause.OwnClash a) n.refusals }
with_cause cycle n (cause.Clash a rule earlier) =
    record n { clashed = n.clashed + 1; unwatched = first_of n.unwatched cycle; refusals = with_refusal cycle (cause.Clash a rule earlier) n.refusals }

-- the numbers after a cycle in which the rule has this verdict
abbrev pub with_verdict : ℕ → RuleNumbers → Option TrialVerdict → RuleNumbers
with_verdict cycle n (Some verdict.Fired) = record n { fired = n.fired + 1 }
with_verdict cycle n (Some (verdict.Refused c)) = with_cause cycle n c
with_verdict cycle n None = record n { untried = n.untried + 1; unwatched = first_of n.unwatched cycle }

-- all counts are below the number of a cycle
pub record AreBelow (cycle : ℕ) (n : RuleNumbers) : Type 0 where
  pub fired : n.fired < cycle
  pub aborted : n.aborted < cycle
  pub own : n.own < cycle
  pub clashed : n.clashed < cycle
  pub untried : n.untried < cycle
  pub refusals : All (λ (c : Counted). c.count < cycle) n.refusals

-- the verdicts of rules by number
abbrev pub verdicts_of : ℕ → List Trial → List (Option TrialVerdict)
verdicts_of rules tried = map (λ rule. verdict_in rule tried) (range_with_len 0 rules)
