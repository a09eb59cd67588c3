use Rattle.std.proofs.Common.{sym, ◌∙◌}
use Rattle.std.specs.Arc.{arc_value}
use Rattle.front_end.proofs.FewCycles.{few-cycles}
use Rattle.front_end.proofs.LoweredRuns.{inputs-wide}
use Rattle.koika_top.proofs.journal_run.JournalRun.fits.Goals as goal

pub returns-clause-stimulus : goal.returns-clause-stimulus
returns-clause-stimulus c =
    let it = c.args.self.now.lowered in
    it.stimulus_fits ∙ sym (inputs-wide it.checked (arc_value it.design) it.lowered)

pub returns-clause-few : goal.returns-clause-few
returns-clause-few c = few-cycles c.args.self.now.cycles _ _ c.args.self.now.within
