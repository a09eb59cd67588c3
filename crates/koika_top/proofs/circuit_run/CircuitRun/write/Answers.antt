use Rattle.std.proofs.Common.{length, refl, sym, ap, subst, ◌∙◌}
use Rattle.std.proofs.lemmas.Result.{err_from_is_err_and}
use Rattle.std.specs.List.{range_with_len}
use Rattle.one_rule.specs.Stimulus.{inputs_of}
use Rattle.stim_report.specs.Shapes.{RowsFit}
use Rattle.front_end.specs.Marks.{Marks}
use Rattle.koika_top.specs.inner.Telling.{all_told, marks_in, shown_by}
use Rattle.koika_top.proofs.BesideTold.{all-shown}
use Rattle.koika_top.proofs.CircuitFits.{rows-fit-less}
use Rattle.koika_top.proofs.CircuitTold.{has-own, marked-told}
use Rattle.koika_top.proofs.MachineRuns.{circuit-rows}
use Rattle.front_end.proofs.Told.{told-as, told-none}
use Rattle.koika_top.proofs.circuit_run.CircuitRun.write.Goals as goal

pub returns-in_err-watch : goal.returns-in_err-watch
returns-in_err-watch g c lines is =
    let p = err_from_is_err_and c.from_residual.result c.from_residual.ensures.1 in
    rw (p.1, p.2) (told-none _ _ _)

pub returns-in_err-teller : goal.returns-in_err-teller
returns-in_err-teller g c lines is =
    let p = err_from_is_err_and c.from_residual-in_err-teller.result c.from_residual-in_err-teller.ensures.1 in
    rw (p.1, p.2) (told-none _ _ _)

pub returns-in_err-sim : goal.returns-in_err-sim
returns-in_err-sim g c lines is =
    let p = err_from_is_err_and c.from_residual-in_err-sim.result c.from_residual-in_err-sim.ensures.1 in
    rw (p.1, p.2) (told-none _ _ _)

pub tell-requires-clause-first : goal.tell-requires-clause-first
tell-requires-clause-first g c = rw c.in_ok-sim.ensures refl

pub tell-requires-clause-widths : goal.tell-requires-clause-widths
tell-requires-clause-widths g c = rw c.in_ok-sim.ensures c.args.self.now.stimulus_fits

pub tell-requires-clause-fit : goal.tell-requires-clause-fit
tell-requires-clause-fit g c n =
    let run = c.args.self.now in
    subst (RowsFit run.shape) (sym (circuit-rows run.circuit c.in_ok-sim.sim (inputs_of run.stimulus) n c.in_ok-sim.ensures))
    (rows-fit-less run.shape run.circuit run.stimulus c.recall.ensures run.registers_fit run.rules_fit run.stimulus_fits c.recall-2.ensures n)

pub tell-requires-clause-none : goal.tell-requires-clause-none
tell-requires-clause-none g c =
    let run = c.args.self.now in
    let marks : Marks = record { names = c.as_slice.result.now; rules = range_with_len c.len.result (length c.as_slice.result.now) } in
    has-own c.in_ok-teller.teller run.shape marks (c.in_ok-teller.ensures.rows marks c.in_ok-watch.ensures)

pub returns : goal.returns
returns g c lines is =
    let run = c.args.self.now in
    let inputs = inputs_of run.stimulus in
    let teller = c.in_ok-teller.teller in
    let marks : Marks = record { names = c.as_slice.result.now; rules = range_with_len c.len.result (length c.as_slice.result.now) } in
    told-as _ _ _ c.tell.result
    (ap (all_told (shown_by teller) run.shape (marks_in teller)) (circuit-rows run.circuit c.in_ok-sim.sim inputs run.cycles c.in_ok-sim.ensures)
    ∙ marked-told teller run.shape marks run.shown _ (c.in_ok-teller.ensures.rows marks c.in_ok-watch.ensures) c.in_ok-teller.ensures.shown
    ∙ rw (c.len.ensures, c.as_slice.ensures)
    (all-shown lines inputs run.cycles run.shown run.shape run.bads _ is.shape_is is.bads (is.runs run.stimulus run.cycles run.stimulus_fits c.recall-2.ensures)))
    c.tell.ensures
