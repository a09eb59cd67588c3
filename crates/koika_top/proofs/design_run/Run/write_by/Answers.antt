use Rattle.std.proofs.Common.{sym, subst}
use Rattle.std.proofs.lemmas.Result.{err_from_is_err_and}
use Rattle.std.specs.Arc.{arc_value}
use Rattle.one_rule.specs.Stimulus.{AlwaysFits, inputs_of}
use Rattle.stim_report.specs.Shapes.{RowsFit}
use Rattle.stim_report.specs.declared.shape.Shape.{Shape}
use Rattle.typed_core.specs.Valid.{IsValid}
use Rattle.koika_top.specs.inner.Engines.{AreRows}
use Rattle.front_end.specs.Marks.{marks_of}
use Rattle.front_end.specs.Systems.{run_of}
use Rattle.koika_top.specs.inner.Telling.{all_told}
use Rattle.front_end.proofs.FewCycles.{few-cycles}
use Rattle.koika_top.proofs.CircuitTold.{has-own, marks-same}
use Rattle.front_end.proofs.Told.{told-as, told-none}
use Rattle.koika_top.proofs.TypedRows.{typed-fit, typed-rows}
use Rattle.koika_top.proofs.design_run.Run.write_by.Goals as goal

pub returns-in_err-watch : goal.returns-in_err-watch
returns-in_err-watch g c =
    let p = err_from_is_err_and c.from_residual.result c.from_residual.ensures.1 in
    rw (p.1, p.2) (told-none _ _ _)

pub returns-in_err-teller : goal.returns-in_err-teller
returns-in_err-teller g c =
    let p = err_from_is_err_and c.from_residual-in_err-teller.result c.from_residual-in_err-teller.ensures.1 in
    rw (p.1, p.2) (told-none _ _ _)

pub tell-requires-clause-few : goal.tell-requires-clause-few
tell-requires-clause-few g c = few-cycles c.args.self.now.cycles _ _ c.args.self.now.within

pub tell-requires-clause-run : goal.tell-requires-clause-run
tell-requires-clause-run g c =
    let it = c.args.self.now.lowered in
    subst AreRows (λ i n. sym (c.requires.run n) i) (typed-rows it.checked (arc_value it.stimulus))

pub tell-requires-clause-fit : goal.tell-requires-clause-fit
tell-requires-clause-fit g c n =
    let it = c.args.self.now.lowered in
    let design = arc_value it.design in
    let stimulus = arc_value it.stimulus in
    subst (RowsFit it.shape) (sym (c.requires.run n))
    (subst (λ (s : Shape). RowsFit s (run_of it.checked (inputs_of stimulus) n)) (sym it.shape_fits)
    (typed-fit it.checked design it.lowered (subst IsValid c.deref-design.ensures c.recall.ensures) stimulus it.stimulus_fits (subst AlwaysFits c.deref-stimulus.ensures c.recall-2.ensures) n))

pub tell-requires-clause-none : goal.tell-requires-clause-none
tell-requires-clause-none g c =
    let it = c.args.self.now.lowered in
    let marks = marks_of it.checked in
    has-own c.in_ok-teller.teller it.shape marks (c.in_ok-teller.ensures.rows marks c.in_ok-watch.ensures)

pub returns : goal.returns
returns g c =
    let it = c.args.self.now.lowered in
    let teller = c.in_ok-teller.teller in
    let marks = marks-same teller it.shape (marks_of it.checked) (c.in_ok-teller.ensures.rows (marks_of it.checked) c.in_ok-watch.ensures) in
    told-as _ _ _ c.tell.result (λ i. all_told (c.in_ok-teller.ensures.shown i) (it.shape_fits i) (marks i) (c.requires.run c.args.self.now.cycles i)) c.tell.ensures
