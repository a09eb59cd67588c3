use Rattle.std.proofs.Common.{sym, ap, subst, ◌∙◌}
use Rattle.std.specs.Arc.{arc_value}
use Rattle.std.specs.List.{AllByRecursion}
use Rattle.typed_core.specs.Valid.{IsValid, externs_of}
use Rattle.typed_core.specs.Widths.{input_widths}
use Rattle.typed_core.specs.declared.design.Parts.{Parts}
use Rattle.one_rule.specs.Externs.{kept}
use Rattle.one_rule.specs.Stimulus.{AlwaysFits, InputVectors}
use Rattle.journal_check.specs.Checking.{BatchFits}
use Rattle.front_end.proofs.LoweredRuns.{inputs-wide}
use Rattle.koika_top.proofs.Rechecking.{fault-at, fit-at, good-at, run-at}
use Rattle.koika_top.proofs.recheck.certified_rows.Goals as goal

pub recheck-requires-clause-externs : goal.recheck-requires-clause-externs
recheck-requires-clause-externs c = ap kept c.in_ok-externs.ensures ∙ c.args.lowered.now.externs_fit ∙ sym (ap externs_of c.in_ok-design.ensures)

pub recheck-requires-clause-stimulus : goal.recheck-requires-clause-stimulus
recheck-requires-clause-stimulus c =
    let it = c.args.lowered.now in
    ap (λ (s : InputVectors). s.widths) c.in_ok-stimulus.ensures ∙ it.stimulus_fits ∙ sym (inputs-wide it.checked (arc_value it.design) it.lowered) ∙ sym (ap input_widths c.in_ok-design.ensures)

pub recheck-requires-clause-fits : goal.recheck-requires-clause-fits
recheck-requires-clause-fits c =
    subst (λ (d : Parts). AllByRecursion (BatchFits d (arc_value c.in_ok-stimulus.stimulus)) c.args.journal.batches) (sym c.in_ok-design.ensures)
    (subst (λ (s : InputVectors). AllByRecursion (BatchFits (arc_value c.args.lowered.now.design) s) c.args.journal.batches) (sym c.in_ok-stimulus.ensures) c.requires.fits)

pub returns-clause-good : goal.returns-clause-good
returns-clause-good c = good-at _ _ _ _ c.in_ok-design.ensures c.in_ok-stimulus.ensures c.args.cycles c.args.journal c.recheck.result c.recheck.ensures.good

pub returns-clause-run : goal.returns-clause-run
returns-clause-run c =
    let it = c.args.lowered.now in
    run-at _ _ _ _ c.in_ok-design.ensures c.in_ok-stimulus.ensures c.args.cycles c.args.journal c.recheck.result it.checked it.lowered (subst IsValid c.deref-core.ensures c.recall.ensures) it.stimulus_fits (subst AlwaysFits c.deref-inputs.ensures c.recall-2.ensures)
    c.recheck.ensures.run

pub returns-clause-fit : goal.returns-clause-fit
returns-clause-fit c =
    let it = c.args.lowered.now in
    fit-at _ _ _ _ c.in_ok-design.ensures c.in_ok-stimulus.ensures c.args.cycles c.args.journal c.recheck.result it.checked it.lowered (subst IsValid c.deref-core.ensures c.recall.ensures) it.stimulus_fits (subst AlwaysFits c.deref-inputs.ensures c.recall-2.ensures)
    c.recheck.ensures.run it.shape it.shape_fits

pub returns-clause-fault : goal.returns-clause-fault
returns-clause-fault c = fault-at _ _ _ _ c.in_ok-design.ensures c.in_ok-stimulus.ensures c.args.cycles c.args.journal c.recheck.result c.recheck.ensures.fault
