use Rattle.std.proofs.Common.{sym, subst, ap, ◌∙◌}
use Rattle.one_rule.specs.Stimulus.{InputVectors, inputs_of}
use Rattle.stim_report.specs.Shapes.{RowsFit}
use Rattle.koika_top.specs.inner.Engines.{rows_of}
use Rattle.koika_top.specs.inner.Telling.{all_told, marks_in, shown_by}
use Rattle.koika_top.proofs.MachineRows.{are-rows}
use Rattle.front_end.proofs.Told.{told-as}
use Rattle.koika_top.proofs.machine_run.MachineRun.tell.Goals as goal

pub tell-requires-clause-run : goal.tell-requires-clause-run
tell-requires-clause-run g c =
    let engine = c.begin-engine.result in
    are-rows g.M.Machine.after_step (inputs_of engine.stimulus.now) g.M.Machine.row_at (g.M.Begun.beginning engine.machine)

pub tell-requires-clause-fit : goal.tell-requires-clause-fit
tell-requires-clause-fit g c n =
    let first = ap g.M.Begun.beginning c.begin-engine.ensures.machine ∙ sym c.requires.first in
    let shape = c.args.shape.now in
    subst (λ (s : InputVectors). RowsFit shape (rows_of g.M.Machine.after_step g.M.Machine.row_at (inputs_of s) (g.M.Begun.beginning c.begin-engine.result.machine) n)) (sym c.begin-engine.ensures.stimulus)
    (subst (λ m. RowsFit shape (rows_of g.M.Machine.after_step g.M.Machine.row_at (inputs_of c.args.self.stimulus.now) m n)) (sym first) (c.requires.fit n))

pub returns : goal.returns
returns g c =
    let first = ap g.M.Begun.beginning c.begin-engine.ensures.machine ∙ sym c.requires.first in
    let teller = c.args.teller in
    told-as _ _ _ c.tell.result
    (λ i. all_told (shown_by teller) c.args.shape.now (marks_in teller) (rows_of g.M.Machine.after_step g.M.Machine.row_at (inputs_of (c.begin-engine.ensures.stimulus i)) (first i) c.args.self.cycles))
    c.tell.ensures
