use Rattle.std.proofs.Common.{◌≡◌}
use Rattle.board_core.specs.Kept.{left}
use Rattle.cycle_driver.proofs.finish.finish.Given as goal

abbrev pub invariant-cycles : goal.invariant-cycles
invariant-cycles l = l.core.opening ≡ l.initial.core.opening

abbrev pub decreases-cycles : goal.decreases-cycles
decreases-cycles l = left l.core
