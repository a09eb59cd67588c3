use Rattle.std.proofs.Common.{ap, sym, subst, ◌∙◌}
use Rattle.std.proofs.lemmas.Result.{err_from_is_err_and}
use Rattle.std.specs.Arc.{arc_value}
use Rattle.one_rule.specs.Externs.{kept}
use Rattle.one_rule.specs.Run.{run_of}
use Rattle.one_rule.specs.Stimulus.{AlwaysFits, InputVectors, inputs_of}
use Rattle.typed_core.specs.Valid.{IsValid, externs_of}
use Rattle.typed_core.specs.Widths.{input_widths}
use Rattle.front_end.proofs.LoweredRuns.{inputs-wide}
use Rattle.front_end.proofs.Told.{told-none}
use Rattle.koika_top.proofs.TypedRows.{same-rows}
use Rattle.koika_top.proofs.design_run.Run.write_plain.Goals as goal

pub begin-requires-clause-externs : goal.begin-requires-clause-externs
begin-requires-clause-externs g c = ap kept c.deref-externs.ensures ∙ c.args.self.now.lowered.externs_fit ∙ sym (ap externs_of c.deref-design.ensures)

pub begin-requires-clause-stimulus : goal.begin-requires-clause-stimulus
begin-requires-clause-stimulus g c =
    let it = c.args.self.now.lowered in
    ap (λ (s : InputVectors). s.widths) c.deref-stimulus.ensures ∙ it.stimulus_fits ∙ sym (inputs-wide it.checked (arc_value it.design) it.lowered) ∙ sym (ap input_widths c.deref-design.ensures)

pub write_by-requires-clause-run : goal.write_by-requires-clause-run
write_by-requires-clause-run g c n =
    let it = c.args.self.now.lowered in
    let design = c.in_ok-engine.ensures.design ∙ c.deref-design.ensures in
    let stimulus = c.in_ok-engine.ensures.stimulus ∙ c.deref-stimulus.ensures in
    (λ i. run_of (design i) (inputs_of (stimulus i)) n)
    ∙ same-rows it.checked (arc_value it.design) it.lowered (subst IsValid c.deref-design.ensures c.recall.ensures) (arc_value it.stimulus) it.stimulus_fits (subst AlwaysFits c.deref-stimulus.ensures c.recall-2.ensures) n

pub returns-in_err-engine : goal.returns-in_err-engine
returns-in_err-engine g c =
    let p = err_from_is_err_and c.from_residual.result c.from_residual.ensures.1 in
    rw (p.1, p.2) (told-none _ _ _)
