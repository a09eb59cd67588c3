-- What a visit of the walk leaves, by the verdict on the node's rule.
use Rattle.std.proofs.Common.{◌≡◌, Bool, List, [], ◌∷◌, ◌++◌, append-nil, sym, ap, ap₂, ◌∙◌}
use Rattle.std.specs.Prelude.{Some, None, if◌then◌else◌}
use Rattle.kw_bits.specs.BitVector.{BitVector}
use Rattle.typed_core.specs.Alone.{after}
use Rattle.typed_core.specs.declared.access.Event.{Event}
use Rattle.typed_core.specs.declared.design.Node.{Node}
use Rattle.typed_core.specs.declared.outcome.Alone.{Alone}
use Rattle.one_rule.specs.Cycle.{System, fire, fires, join}
use Rattle.one_rule.specs.Walk.{Walk, goes_on}
use Rattle.one_rule.specs.declared.cycle.Fired.{Fired}
use Rattle.one_rule.specs.declared.cycle.State.{State}
use Rattle.attempt_log.specs.declared.cause.Cause.{Cause}
use Rattle.lab_core.specs.Trials.{unclashed, verdict_of}
use Rattle.lab_core.specs.declared.trial.Trial.{Trial}
use Rattle.lab_core.specs.declared.trial.TrialVerdict.{TrialVerdict}
use Rattle.lab_core.specs.declared.trial.TrialVerdict.TheVariants as verdict
use Rattle.lab_core.specs.inner.Steps.{state_of, walk_at}
use Rattle.lab_core.specs.inner.Tops.{fired_by, fired_in}
use Rattle.lab_core.proofs.Tops.{fired_in-push}
use Rattle.lab_core.proofs.Verdicts.{all_shown, fired_fires, fires_clear, refused_idle}

-- the trial of a rule that did this alone
abbrev pub IsTrial : List Trial → Alone → TrialVerdict → List Event → Type 0
IsTrial tried run v events = (v ≡ verdict_of (fired_in tried) run) × (events ≡ unclashed (fired_in tried) run.events)

-- a rule that fires shows all events
pub fired_shows : (tried : List Trial) (run : Alone) (v : TrialVerdict) (events : List Event) → IsTrial tried run v events → v ≡ verdict.Fired → events ≡ run.events
fired_shows tried run v events is fired =
    is.1 ∙ all_shown (fired_in tried) run.events (fires_clear (fired_in tried) run (fired_fires (fired_in tried) run (sym is.0 ∙ fired)))

module _ (system : System) (inputs : List BitVector) (node : Node) (regs : List BitVector) (tried : List Trial) (run : Alone) (v : TrialVerdict) (events : List Event)
    (alone : run ≡ system.alone node.rule inputs regs) (is : IsTrial tried run v events) where
  abbrev state : State
  state = state_of regs tried

  abbrev pub trial : Trial
  trial = record { rule = node.rule; verdict = v; events = events }

  pub visit_fired : (after_regs : List BitVector) (more : List Trial) → v ≡ verdict.Fired → after_regs ≡ after events regs → more ≡ tried ++ trial ∷ []
      → goes_on node state (fire system inputs node.rule state) ≡ walk_at after_regs more node.yes
  visit_fired after_regs more fired changed pushed =
      ap (λ (r : Alone). goes_on node state (if fires (fired_in tried) r then Some (join state node.rule r.events) else None)) (sym alone)
      ∙ ap (λ (b : Bool). goes_on node state (if b then Some (join state node.rule run.events) else None)) (fired_fires (fired_in tried) run (sym is.0 ∙ fired))
      ∙ ap₂ (λ (rs : List BitVector) (past : List Fired). let w : Walk State = record { state = record { regs = rs; past = past }; at = node.yes } in w)
      (sym (changed ∙ ap (λ (es : List Event). after es regs) same))
      (sym (ap fired_in pushed ∙ fired_in-push tried trial ∙ ap₂ (λ (w : TrialVerdict) (es : List Event). fired_in tried ++ fired_by w node.rule es) fired same))
    where
      same : events ≡ run.events
      same = fired_shows tried run v events is fired

  pub visit_refused : (more : List Trial) (c : Cause) → v ≡ verdict.Refused c → more ≡ tried ++ trial ∷ []
      → goes_on node state (fire system inputs node.rule state) ≡ walk_at regs more node.no
  visit_refused more c refused pushed =
      ap (λ (r : Alone). goes_on node state (if fires (fired_in tried) r then Some (join state node.rule r.events) else None)) (sym alone)
      ∙ ap (λ (b : Bool). goes_on node state (if b then Some (join state node.rule run.events) else None)) (refused_idle (fired_in tried) run c (sym is.0 ∙ refused))
      ∙ ap (λ (past : List Fired). let w : Walk State = record { state = record { regs = regs; past = past }; at = node.no } in w)
      (sym (ap fired_in pushed ∙ fired_in-push tried trial ∙ ap (λ (w : TrialVerdict). fired_in tried ++ fired_by w node.rule events) refused ∙ append-nil (fired_in tried)))
