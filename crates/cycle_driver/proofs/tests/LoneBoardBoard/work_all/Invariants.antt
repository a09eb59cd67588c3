use Rattle.std.proofs.Common.{◌≡◌}
use Rattle.cycle_driver.proofs.tests.LoneBoardBoard.work_all.Given as goal

abbrev pub invariant-loop-turn : goal.invariant-loop-turn
invariant-loop-turn g l = l.self.core.opening ≡ l.initial.self.core.opening
