use Rattle.std.proofs.Common.{◌≡◌, List, [], Some, subst, sym, ap, ap₂, ◌∙◌}
use Rattle.std.specs.Prelude.{slice_get, slice_index_or}
use Rattle.std.proofs.lemmas.Option.{slice_get-get_or}
use Rattle.kw_bits.specs.BitVector.{BitVector}
use Rattle.typed_core.specs.Evaluation.{Externs, Environment, evaluate}
use Rattle.typed_core.specs.Alone.{outcome_of}
use Rattle.typed_core.specs.Fits.{EnvironmentFits, EventsFit}
use Rattle.typed_core.specs.Valid.{IsValid, declarations}
use Rattle.typed_core.specs.Widths.{register_widths}
use Rattle.typed_core.specs.declared.access.Event.{Event}
use Rattle.typed_core.specs.declared.design.Parts.{Parts}
use Rattle.typed_core.specs.declared.design.Rule.{Rule}
use Rattle.typed_core.specs.declared.outcome.Alone.{Alone}
use Rattle.typed_core.specs.declared.outcome.Outcome.{Outcome}
use Rattle.one_rule.specs.Cycle.{environment}
use Rattle.one_rule.specs.Externs.{kept}
use Rattle.one_rule.proofs.Fitting.{environment_fits}
use Rattle.attempt_log.specs.Trace.{retrace, trace_ports}
use Rattle.attempt_log.proofs.Traces.{PortsFit-trace, retrace_fits}
use Rattle.attempt_log.proofs.retrace.retrace.Goals as goal

pub evaluate-end-requires-clause-fits : goal.evaluate-end-requires-clause-fits
evaluate-end-requires-clause-fits c =
    let design = c.args.design.now in
    let valid = subst IsValid c.design.view_is c.design.invariant in
    subst (λ (externs : Externs). EnvironmentFits (declarations design) (let env : Environment = record { externs = externs; inputs = c.args.inputs.now } in env)) (sym c.requires.externs)
    (environment_fits design valid c.args.inputs.now c.requires.inputs)

pub evaluate-end-requires-clause-reading : goal.evaluate-end-requires-clause-reading
evaluate-end-requires-clause-reading c =
    let design = c.args.design.now in
    let valid = subst IsValid c.design.view_is c.design.invariant in
    PortsFit-trace (register_widths design) c.args.trace.now (environment_fits design valid c.args.inputs.now c.requires.inputs).registers c.requires.reads

pub returns-clause-run : goal.returns-clause-run
returns-clause-run c =
    let design = c.args.design.now in
    let widths = register_widths design in
    let trace = c.args.trace.now in
    let inputs = c.args.inputs.now in
    let rule : Rule = c.get.result.now in
    let found : slice_get design.rules c.args.rule ≡ Some rule =
    slice_get-get_or design.rules c.args.rule rule c.requires.rule
    ∙ ap Some (sym (c.get.ensures ∙ ap (λ (d : Parts). slice_index_or d.rules c.args.rule rule) c.design.view_is)) in
    let run_of : Externs → List BitVector → Alone = λ externs locals.
    let end = evaluate (record { externs = externs; inputs = inputs }) (trace_ports widths trace) rule.body locals [] in
    record { events = end.events; outcome = outcome_of end.ending } in
    let end = evaluate (record { externs = kept c.args.externs.now; inputs = inputs }) (trace_ports widths trace) rule.body c.empty.result [] in
    let is = c.in_ok-outcome.ensures c.evaluate-end.new.ports.events end (c.evaluate-end.ensures.answers [] c.new.ensures) in
    ap₂ (λ (events : List Event) (outcome : Outcome). let run : Alone = record { events = events; outcome = outcome } in run) is.0 is.1
    ∙ ap₂ run_of c.requires.externs c.empty.ensures
    ∙ ap (retrace (environment design inputs) widths trace) (sym found)

pub returns-clause-fits : goal.returns-clause-fits
returns-clause-fits c =
    let design = c.args.design.now in
    let valid = subst IsValid c.design.view_is c.design.invariant in
    let fits = retrace_fits design valid c.args.inputs.now c.requires.inputs c.args.trace.now c.requires.reads c.args.rule in
    subst (λ (run : Alone). EventsFit (register_widths design) run.events) (sym (returns-clause-run c)) fits
