use Rattle.std.proofs.Common.{◌≡◌}
use Rattle.board_core.specs.Kept.{left}
use Rattle.koika_top.specs.inner.Histories.{IsRecord}
use Rattle.koika_top.proofs.journaled.finish.Given as goal

abbrev pub invariant-cycles : goal.invariant-cycles
invariant-cycles l =
    record {
      same : l.core.opening ≡ l.initial.core.opening;
      so_far : IsRecord l.worker l.entries l.core;
    }

abbrev pub decreases-cycles : goal.decreases-cycles
decreases-cycles l = left l.core
