use Rattle.std.proofs.Common.{refl, sym, subst}
use Rattle.std.proofs.lemmas.Result.{err_from_is_err_and}
use Rattle.aig_blast.specs.AigRun.{run_of}
use Rattle.one_rule.specs.Stimulus.{inputs_of}
use Rattle.stim_report.specs.Shapes.{RowsFit}
use Rattle.stim_report.specs.declared.shape.Shape.{Shape}
use Rattle.koika_top.specs.Sim.{rows_text}
use Rattle.koika_top.proofs.AigFits.{aig-rows-fit}
use Rattle.koika_top.proofs.MachineRuns.{aig-rows}
use Rattle.front_end.proofs.Told.{told-as, told-none}
use Rattle.koika_top.proofs.aig_run.AigRun.write.Goals as goal

pub returns-in_err-sim : goal.returns-in_err-sim
returns-in_err-sim g c =
    let p = err_from_is_err_and c.from_residual.result c.from_residual.ensures.1 in
    rw (p.1, p.2) (told-none _ _ _)

pub tell_shown-requires-clause-first : goal.tell_shown-requires-clause-first
tell_shown-requires-clause-first g c = rw c.in_ok-sim.ensures refl

pub tell_shown-requires-clause-widths : goal.tell_shown-requires-clause-widths
tell_shown-requires-clause-widths g c = rw c.in_ok-sim.ensures c.args.self.now.stimulus_fits

pub tell_shown-requires-clause-fit : goal.tell_shown-requires-clause-fit
tell_shown-requires-clause-fit g c n =
    let run = c.args.self.now in
    subst (RowsFit run.shape) (sym (aig-rows run.aig c.in_ok-sim.sim (inputs_of run.stimulus) n c.in_ok-sim.ensures))
    (subst (λ (s : Shape). RowsFit s (run_of run.aig (inputs_of run.stimulus) n)) (sym run.shape_fits) (aig-rows-fit run.aig c.recall.ensures (inputs_of run.stimulus) n))

pub returns : goal.returns
returns g c =
    let run = c.args.self.now in
    let rows = aig-rows run.aig c.in_ok-sim.sim (inputs_of run.stimulus) run.cycles c.in_ok-sim.ensures in
    told-as _ _ _ c.tell_shown.result (λ i. rows_text run.shown (run.shape_fits i) (rows i)) c.tell_shown.ensures
