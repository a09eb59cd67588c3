-- What is counted of the trials of a run: in how many cycles each rule fired, aborted, was refused by its own accesses
-- or those of an earlier rule, or was not tried; and each of its refusals, with its count and its first cycle.
use Rattle.std.specs.Prelude.{ℕ, ◌+◌, Bool, true, false, ◌==◌, ◌&&◌, ◌||◌, not, nat_lt, List, [], ◌∷◌, length, map, count_by, Option, Some, None, is_some, option_map, slice_get, if◌then◌else◌}
use Rattle.std.specs.List.{find, list_any, position_from, range_with_len}
use Rattle.typed_core.specs.declared.access.Access.{Access}
use Rattle.attempt_log.specs.declared.cause.Cause.{Cause}
use Rattle.attempt_log.specs.declared.cause.Cause.TheVariants as cause
use Rattle.lab_core.specs.declared.trial.Trial.{Trial}
use Rattle.lab_core.specs.declared.trial.TrialVerdict.{TrialVerdict}
use Rattle.lab_core.specs.declared.trial.TrialVerdict.TheVariants as verdict

-- ---- a rule in a cycle

-- the verdict on a rule, if it was tried
abbrev pub verdict_in : ℕ → List Trial → Option TrialVerdict
verdict_in rule tried = option_map (λ (t : Trial). t.verdict) (find (λ (t : Trial). t.rule == rule) tried)

-- the rule fired
abbrev pub has_fired : Option TrialVerdict → Bool
has_fired (Some verdict.Fired) = true
has_fired (Some (verdict.Refused c)) = false
has_fired None = false

-- the rule reached an `abort`
abbrev pub is_abort : Cause → Bool
is_abort cause.Abort = true
is_abort (cause.OwnClash access) = false
is_abort (cause.Clash access rule earlier) = false

-- the rule's own accesses refused it
abbrev pub is_own : Cause → Bool
is_own cause.Abort = false
is_own (cause.OwnClash access) = true
is_own (cause.Clash access rule earlier) = false

-- the rule clashed with an earlier one
abbrev pub is_clash : Cause → Bool
is_clash cause.Abort = false
is_clash (cause.OwnClash access) = false
is_clash (cause.Clash access rule earlier) = true

-- why the rule was tried and didn't fire, if so
abbrev pub cause_in : Option TrialVerdict → Option Cause
cause_in (Some verdict.Fired) = None
cause_in (Some (verdict.Refused c)) = Some c
cause_in None = None

-- the cause passes a test, if there is one
abbrev pub passes : (Cause → Bool) → Option Cause → Bool
passes test (Some c) = test c
passes test None = false

-- the rule wasn't tried
abbrev pub was_untried : Option TrialVerdict → Bool
was_untried v = not (is_some v)

-- a refusal by the rule's own accesses or those of another
abbrev pub is_refusal : Cause → Bool
is_refusal c = not (is_abort c)

-- the cycle says nothing of an assertion: the rule was refused or not tried
abbrev pub is_unwatched : Option TrialVerdict → Bool
is_unwatched v = passes is_refusal (cause_in v) || was_untried v

-- ---- refusals

-- both are writes, or both are reads
abbrev pub same_kind : Bool → Bool → Bool
same_kind true b = b
same_kind false b = not b

-- two accesses are equal
abbrev pub same_access : Access → Access → Bool
same_access a b = same_kind a.write b.write && (a.port == b.port) && (a.register == b.register)

-- two causes are equal
abbrev pub same_cause : Cause → Cause → Bool
same_cause cause.Abort cause.Abort = true
same_cause (cause.OwnClash a) (cause.OwnClash b) = same_access a b
same_cause (cause.Clash a q e) (cause.Clash b r f) = same_access a b && (q == r) && same_access e f
same_cause cause.Abort (cause.OwnClash b) = false
same_cause cause.Abort (cause.Clash b r f) = false
same_cause (cause.OwnClash a) cause.Abort = false
same_cause (cause.OwnClash a) (cause.Clash b r f) = false
same_cause (cause.Clash a q e) cause.Abort = false
same_cause (cause.Clash a q e) (cause.OwnClash b) = false

-- a refusal, in how many cycles it came, and the first of them
pub record Counted : Type 0 where
  pub cause : Cause
  pub count : ℕ
  pub first : ℕ

-- in how many of these cycles the refusal came
abbrev pub times : Cause → List (Option Cause) → ℕ
times c causes = count_by (passes (same_cause c)) causes

-- the refusals from a cycle on that aren't known from before, in order of their first cycles
abbrev pub refusals_from : ℕ → List Cause → List (Option Cause) → List Counted
refusals_from cycle known [] = []
refusals_from cycle known (None ∷ later) = refusals_from (cycle + 1) known later
refusals_from cycle known (Some c ∷ later) =
    if is_abort c || list_any (same_cause c) known then refusals_from (cycle + 1) known later
    else record { cause = c; count = times c later + 1; first = cycle } ∷ refusals_from (cycle + 1) (c ∷ known) later

-- ---- the numbers

-- what is counted of a rule
pub record RuleNumbers : Type 0 where
  pub fired : ℕ
  pub aborted : ℕ
  pub own : ℕ
  pub clashed : ℕ
  pub untried : ℕ
  -- the first cycle that says nothing of an assertion
  pub unwatched : Option ℕ
  pub refusals : List Counted

-- the numbers of a rule with these verdicts in the cycles 1 and on
abbrev pub rule_numbers : List (Option TrialVerdict) → RuleNumbers
rule_numbers verdicts =
    let causes : List (Option Cause) = map cause_in verdicts in
    record {
      fired = count_by has_fired verdicts;
      aborted = count_by (passes is_abort) causes;
      own = count_by (passes is_own) causes;
      clashed = count_by (passes is_clash) causes;
      untried = count_by was_untried verdicts;
      unwatched = position_from is_unwatched 1 verdicts;
      refusals = refusals_from 1 [] causes;
    }

-- what is counted of a run, rule by rule in order of declaration
pub record RunNumbers : Type 0 where
  pub cycles : ℕ
  pub rules : List RuleNumbers

-- the numbers of cycles with these trials, of a system with that many rules
unfoldable pub numbers_of : ℕ → List (List Trial) → RunNumbers
numbers_of rules cycles = record {
  cycles = length cycles;
  rules = map (λ rule. rule_numbers (map (verdict_in rule) cycles)) (range_with_len 0 rules);
}

-- ---- assertions: rules that must not fire

-- in how many cycles nothing is said of the assertion
abbrev pub unwatched_count : RuleNumbers → ℕ
unwatched_count n = n.own + n.clashed + n.untried

-- the assertion was violated, or a cycle says nothing of it
abbrev pub is_in_doubt : Option RuleNumbers → Bool
is_in_doubt None = false
is_in_doubt (Some n) = nat_lt 0 n.fired || nat_lt 0 (unwatched_count n)

-- the assertion of one of these rules was violated, or a cycle says nothing of it
abbrev pub fails_strictly : List ℕ → RunNumbers → Bool
fails_strictly marks numbers = list_any (λ mark. is_in_doubt (slice_get numbers.rules mark)) marks
