use Rattle.std.proofs.Common.{◌≡◌, length}
use Rattle.typed_core.specs.inner.Paths.{AreMost}
use Rattle.typed_core.proofs.schedule.most_times.Given as goal

abbrev pub invariant-loop-number : goal.invariant-loop-number
invariant-loop-number l =
    record { shape : length l.most ≡ 1024; passed : AreMost l.nodes l.rule l.number l.most }
