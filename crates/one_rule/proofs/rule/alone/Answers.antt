use Rattle.std.proofs.Common.{◌≡◌, List, [], Some, subst, sym, ap, ap₂, ◌∙◌}
use Rattle.std.specs.Prelude.{slice_get, slice_index_or}
use Rattle.std.proofs.lemmas.Option.{slice_get-get_or}
use Rattle.kw_bits.specs.BitVector.{BitVector}
use Rattle.typed_core.specs.Evaluation.{Externs, evaluate}
use Rattle.typed_core.specs.Alone.{alone_ports, outcome_of}
use Rattle.typed_core.specs.Fits.{EventsFit}
use Rattle.typed_core.specs.Valid.{IsValid}
use Rattle.typed_core.specs.Widths.{register_widths}
use Rattle.typed_core.specs.declared.access.Event.{Event}
use Rattle.typed_core.specs.declared.design.Parts.{Parts}
use Rattle.typed_core.specs.declared.design.Rule.{Rule}
use Rattle.typed_core.specs.declared.outcome.Alone.{Alone}
use Rattle.typed_core.specs.declared.outcome.Outcome.{Outcome}
use Rattle.typed_core.proofs.Typed.{PortsFit-alone}
use Rattle.one_rule.specs.Cycle.{alone_if, environment}
use Rattle.one_rule.specs.Externs.{kept}
use Rattle.one_rule.proofs.Fitting.{HaveWidths-own, run_fits, widths-same}
use Rattle.one_rule.proofs.rule.alone.Goals as goal

pub evaluate-end-requires-clause-registers : goal.evaluate-end-requires-clause-registers
evaluate-end-requires-clause-registers c = widths-same (register_widths c.args.design.now) c.args.regs.now c.requires.registers

pub evaluate-end-requires-clause-reading : goal.evaluate-end-requires-clause-reading
evaluate-end-requires-clause-reading c = PortsFit-alone _ c.args.regs.now (HaveWidths-own (register_widths c.args.design.now) c.args.regs.now c.requires.registers)

pub returns-clause-alone : goal.returns-clause-alone
returns-clause-alone c =
    let design = c.args.design.now in
    let regs = c.args.regs.now in
    let inputs = c.args.inputs.now in
    let rule : Rule = c.get.result.now in
    let found : slice_get design.rules c.args.rule ≡ Some rule =
    slice_get-get_or design.rules c.args.rule rule c.requires.rule
    ∙ ap Some (sym (c.get.ensures ∙ ap (λ (d : Parts). slice_index_or d.rules c.args.rule rule) c.design.view_is)) in
    let run_of : Externs → List BitVector → Alone = λ externs locals.
    let end = evaluate (record { externs = externs; inputs = inputs }) (alone_ports regs) rule.body locals [] in
    record { events = end.events; outcome = outcome_of end.ending } in
    let end = evaluate (record { externs = kept c.args.externs.now; inputs = inputs }) (alone_ports regs) rule.body c.empty.result [] in
    let is = c.in_ok-outcome.ensures c.evaluate-end.new.ports.events end (c.evaluate-end.ensures.answers [] c.new.ensures) in
    ap₂ (λ (events : List Event) (outcome : Outcome). let run : Alone = record { events = events; outcome = outcome } in run) is.0 is.1
    ∙ ap₂ run_of c.requires.externs c.empty.ensures
    ∙ ap (alone_if (environment design inputs) regs) (sym found)

pub returns-clause-fits : goal.returns-clause-fits
returns-clause-fits c =
    let design = c.args.design.now in
    let valid = subst IsValid c.design.view_is c.design.invariant in
    let fits = run_fits design valid c.args.inputs.now c.args.regs.now c.requires.inputs c.requires.registers c.args.rule in
    subst (λ (run : Alone). EventsFit (register_widths design) run.events) (sym (returns-clause-alone c)) fits
