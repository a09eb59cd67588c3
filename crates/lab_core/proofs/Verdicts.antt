-- When a verdict says that a rule fires, and what its trial shows then.
use Rattle.std.proofs.Common.{◌≡◌, Bool, true, false, List, [], ◌∷◌, Option, Some, None, is_some, refl, sym, ap, ap₂, ◌∙◌, inl, inr}
use Rattle.std.specs.Prelude.{◌&&◌, not, if◌then◌else◌}
use Rattle.std.specs.List.{AllByRecursion}
use Rattle.std.specs.Option.{option_or}
use Rattle.std.proofs.lemmas.Bool.{and_parts, both_ways, not-true}
use Rattle.typed_core.specs.declared.access.Event.{Event}
use Rattle.typed_core.specs.declared.outcome.Alone.{Alone}
use Rattle.typed_core.specs.declared.outcome.Outcome.{Outcome}
use Rattle.typed_core.specs.declared.outcome.Outcome.TheVariants as outcome
use Rattle.one_rule.specs.Cycle.{clash_with, fires, is_done}
use Rattle.one_rule.specs.declared.cycle.Fired.{Fired}
use Rattle.attempt_log.specs.Verdict.{clash}
use Rattle.attempt_log.specs.declared.cause.Cause.{Cause}
use Rattle.attempt_log.proofs.Verdicts.{Has, clash_is_behind, free_is_clear}
use Rattle.typed_core.specs.declared.access.Access.{Access}
use Rattle.lab_core.specs.Trials.{clash_among, refused, unclashed, verdict_of}
use Rattle.lab_core.specs.declared.trial.TrialVerdict.TheVariants as verdict

-- a clash is that of some event
record HasClash (past : List Fired) (events : List Event) : Type 0 where
  access : Access
  has : Has access events
  clashes : is_some (clash access past) ≡ true

clash_has : (past : List Fired) (events : List Event) (c : Cause) → clash_among past events ≡ Some c → HasClash past events
clash_has past [] c h = absurd cc
clash_has past (e ∷ events) c h = chosen (clash e.access past) refl (clash_has past events c) h
  where
    chosen : (o : Option Cause) → clash e.access past ≡ o → (clash_among past events ≡ Some c → HasClash past events) → option_or o (clash_among past events) ≡ Some c → HasClash past (e ∷ events)
    chosen (Some d) is more k = record { access = e.access; has = inl refl; clashes = ap (λ (o : Option Cause). is_some o) is }
    chosen None is more k = let rest = more k in record { access = rest.access; has = inr rest.has; clashes = rest.clashes }

-- without a clash no event has one, and all are shown
pub no_clash_free : (past : List Fired) (events : List Event) → clash_among past events ≡ None → AllByRecursion (λ (e : Event). clash e.access past ≡ None) events
no_clash_free past [] h = tt
no_clash_free past (e ∷ events) h = chosen (clash e.access past) refl (no_clash_free past events) h
  where
    chosen : (o : Option Cause) → clash e.access past ≡ o → (clash_among past events ≡ None → AllByRecursion (λ (e : Event). clash e.access past ≡ None) events)
        → option_or o (clash_among past events) ≡ None → (clash e.access past ≡ None) × AllByRecursion (λ (e : Event). clash e.access past ≡ None) events
    chosen (Some d) is more k = absurd cc
    chosen None is more k = (is, more k)

pub all_shown : (past : List Fired) (events : List Event) → clash_among past events ≡ None → unclashed past events ≡ events
all_shown past [] h = refl
all_shown past (e ∷ events) h = chosen (clash e.access past) (all_shown past events) h
  where
    chosen : (o : Option Cause) → (clash_among past events ≡ None → unclashed past events ≡ events) → option_or o (clash_among past events) ≡ None → (if is_some o then [] else e ∷ unclashed past events) ≡ e ∷ events
    chosen (Some d) more k = absurd cc
    chosen None more k = ap (λ (es : List Event). e ∷ es) (more k)

-- a rule that fires has no clash
pub fires_clear : (past : List Fired) (run : Alone) → fires past run ≡ true → clash_among past run.events ≡ None
fires_clear past run h = chosen (clash_among past run.events) refl
  where
    clear : clash_with run.events past ≡ false
    clear = not-true (clash_with run.events past) (and_parts (is_done run.outcome) (not (clash_with run.events past)) h).1

    chosen : (o : Option Cause) → clash_among past run.events ≡ o → o ≡ None
    chosen None is = refl
    chosen (Some c) is =
        let has = clash_has past run.events c is in
        absurd (both_ways (clash_with run.events past) clear (clash_is_behind has.access past run.events has.has has.clashes))

-- the verdict needs no look at whether the rule fires
pub verdict_plain : (past : List Fired) (run : Alone) → verdict_of past run ≡ refused (clash_among past run.events) run.outcome
verdict_plain past run = chosen (fires past run) refl
  where
    ends : (o : Outcome) → is_done o ≡ true → refused None o ≡ verdict.Fired
    ends outcome.Done h = refl
    ends outcome.Abort h = absurd cc
    ends (outcome.OwnClash a) h = absurd cc

    chosen : (b : Bool) → fires past run ≡ b → (if b then verdict.Fired else refused (clash_among past run.events) run.outcome) ≡ refused (clash_among past run.events) run.outcome
    chosen false is = refl
    chosen true is =
        sym (ap (λ (o : Option Cause). refused o run.outcome) (fires_clear past run is)
        ∙ ends run.outcome (and_parts (is_done run.outcome) (not (clash_with run.events past)) is).0)

-- the verdict says that the rule fires where it does
pub fired_fires : (past : List Fired) (run : Alone) → verdict_of past run ≡ verdict.Fired → fires past run ≡ true
fired_fires past run h = at (clash_among past run.events) refl run.outcome refl (sym (verdict_plain past run) ∙ h)
  where
    at : (o : Option Cause) → clash_among past run.events ≡ o → (ending : Outcome) → run.outcome ≡ ending → refused o ending ≡ verdict.Fired → fires past run ≡ true
    at (Some c) is ending ends k = absurd cc
    at None is outcome.Abort ends k = absurd cc
    at None is (outcome.OwnClash a) ends k = absurd cc
    at None is outcome.Done ends k =
        ap₂ (λ (x y : Bool). x && not y) (ap is_done ends) (free_is_clear past run.events (no_clash_free past run.events is))

pub refused_idle : (past : List Fired) (run : Alone) (c : Cause) → verdict_of past run ≡ verdict.Refused c → fires past run ≡ false
refused_idle past run c h = chosen (fires past run) refl
  where
    chosen : (b : Bool) → fires past run ≡ b → b ≡ false
    chosen false is = refl
    chosen true is = absurd (apart (sym (ap (λ (b : Bool). if b then verdict.Fired else refused (clash_among past run.events) run.outcome) is) ∙ h))
      where
        apart : verdict.Fired ≡ verdict.Refused c → ⊥
        apart e = absurd cc
