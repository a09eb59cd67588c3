use Rattle.std.proofs.Common.{◌≡◌, ◌++◌, drop, take}
use Rattle.lab_core.specs.Trials.{clash_among, unclashed}
use Rattle.lab_core.specs.inner.Tops.{fired_in}
use Rattle.lab_core.proofs.judge.judge.Given as goal

-- no event so far clashes
abbrev pub invariant-loop-number : goal.invariant-loop-number
invariant-loop-number l =
    let events = l.run.events in
    record {
      clash : clash_among (fired_in l.tried) events ≡ clash_among (fired_in l.tried) (drop l.number events);
      shown : unclashed (fired_in l.tried) events ≡ take l.number events ++ unclashed (fired_in l.tried) (drop l.number events);
    }
