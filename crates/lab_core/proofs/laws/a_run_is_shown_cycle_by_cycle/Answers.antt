use Rattle.lab_core.proofs.Cycles.{texts_by_cycle, trials_by_cycle}
use Rattle.lab_core.proofs.laws.a_run_is_shown_cycle_by_cycle.Goals as goal

pub returns-clause-trials : goal.returns-clause-trials
returns-clause-trials c = trials_by_cycle

pub returns-clause-texts : goal.returns-clause-texts
returns-clause-texts c = texts_by_cycle
