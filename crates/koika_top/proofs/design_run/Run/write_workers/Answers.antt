use Rattle.std.proofs.Common.{sym, subst, ◌∙◌}
use Rattle.std.proofs.lemmas.Result.{err_from_is_err_and}
use Rattle.std.specs.Arc.{arc_value}
use Rattle.one_rule.specs.Run.{run_of}
use Rattle.one_rule.specs.Stimulus.{AlwaysFits, inputs_of}
use Rattle.typed_core.specs.Valid.{IsValid}
use Rattle.front_end.proofs.LoweredRuns.{inputs-wide}
use Rattle.front_end.proofs.Told.{told-none}
use Rattle.koika_top.proofs.TypedRows.{same-rows}
use Rattle.koika_top.proofs.design_run.Run.write_workers.Goals as goal

pub begin-requires-clause-stimulus : goal.begin-requires-clause-stimulus
begin-requires-clause-stimulus g c =
    let it = c.args.self.now.lowered in
    it.stimulus_fits ∙ sym (inputs-wide it.checked (arc_value it.design) it.lowered)

pub write_by-requires-clause-run : goal.write_by-requires-clause-run
write_by-requires-clause-run g c n =
    let it = c.args.self.now.lowered in
    (λ i. run_of (arc_value (c.in_ok-engine.ensures.lowered i).design) (inputs_of (arc_value (c.in_ok-engine.ensures.lowered i).stimulus)) n)
    ∙ same-rows it.checked (arc_value it.design) it.lowered (subst IsValid c.deref-design.ensures c.recall.ensures) (arc_value it.stimulus) it.stimulus_fits (subst AlwaysFits c.deref-stimulus.ensures c.recall-2.ensures) n

pub returns-in_err-engine : goal.returns-in_err-engine
returns-in_err-engine g c =
    let p = err_from_is_err_and c.from_residual.result c.from_residual.ensures.1 in
    rw (p.1, p.2) (told-none _ _ _)
