-- A rule that is evaluated by the scheduler log comes to what its port run comes to, behind each list of events that the
-- log stands for.
use Rattle.std.proofs.Common.{◌≡◌, ℕ, List, [], Option, Some, Result, Ok, Err, sym, ap, ap₂, ◌∙◌, subst}
use Rattle.std.specs.Prelude.{slice_get}
use Rattle.kw_bits.specs.BitVector.{BitVector}
use Rattle.typed_core.specs.Evaluation.{Externs, Progress, evaluate}
use Rattle.typed_core.specs.Valid.{externs_of}
use Rattle.typed_core.specs.declared.access.Event.{Event}
use Rattle.typed_core.specs.declared.design.Parts.{Parts}
use Rattle.typed_core.specs.declared.design.Rule.{Rule}
use Rattle.typed_core.specs.declared.outcome.Stopped.{Stopped}
use Rattle.typed_core.specs.declared.outcome.Stopped.TheVariants.{Abort, Refused}
use Rattle.one_rule.specs.Answers.{Answers, value_of}
use Rattle.one_rule.specs.Cycle.{environment}
use Rattle.one_rule.specs.PortRun.{port_run_if}
use Rattle.one_rule.specs.declared.evaluation.Interrupt.{Interrupt}
use Rattle.one_rule.specs.declared.evaluation.Interrupt.TheVariants as interrupt
use Rattle.rule_log.specs.StandsFor.{RegisterLog, StandsFor, WritesFollow}
use Rattle.action_interp.specs.inner.ByLog.{Ends, ports_by}
use Rattle.action_interp.specs.Runs.{end_of}
use Rattle.action_interp.specs.declared.run.RuleEnd.{RuleEnd}
use Rattle.action_interp.proofs.ByLog.{evaluates_alike, writes_follow}

-- what a rule that ended came to
pub ended : (S : List Event → Type 0) (value : Result (Option BitVector) Interrupt) (p : Progress BitVector Stopped) (e : RuleEnd) → Answers value_of S value p → Ends value e → (e ≡ end_of p.ending) × S p.events
ended S (Ok value) p e h is = (is ∙ ap end_of (sym h.1), h.0)
ended S (Err (interrupt.Stop Abort)) p e h is = (is ∙ ap end_of (sym h.1), h.0)
ended S (Err (interrupt.Stop (Refused access))) p e h is = (is ∙ ap end_of (sym h.1), h.0)
ended S (Err interrupt.NoMemory) p e h is = absurd is

module _ (design : Parts) (inputs regs : List BitVector) (rule : ℕ) (found : Rule) (here : slice_get design.rules rule ≡ Some found) (events : List Event) where
  pub runs_alike : (widths : List ℕ) (sched : RegisterLog) → StandsFor widths sched events → (externs : Externs) → externs ≡ externs_of design → (locals : List BitVector) → locals ≡ []
      → evaluate (record { externs = externs; inputs = inputs }) (ports_by sched regs) found.body locals [] ≡ port_run_if (environment design inputs) events regs (slice_get design.rules rule)
  runs_alike widths sched stands externs e locals l =
      ap₂ (λ (x : Externs) (vs : List BitVector). evaluate (record { externs = x; inputs = inputs }) (ports_by sched regs) found.body vs []) e l
      ∙ evaluates_alike widths sched events stands (environment design inputs) regs found.body [] []
      ∙ ap (port_run_if (environment design inputs) events regs) (sym here)

  pub run_follows : WritesFollow events (port_run_if (environment design inputs) events regs (slice_get design.rules rule)).events
  run_follows =
      subst (λ (o : Option Rule). WritesFollow events (port_run_if (environment design inputs) events regs o).events) (sym here)
      (writes_follow (environment design inputs) events regs found.body [] [] tt)
