use Rattle.std.proofs.Common.{◌≡◌, drop}
use Rattle.attempt_log.specs.Verdict.{clash}
use Rattle.lab_core.specs.inner.Tops.{fired_in}
use Rattle.lab_core.proofs.tried.clash.Given as goal

-- no trial so far is in the way
abbrev pub invariant-loop-trial : goal.invariant-loop-trial
invariant-loop-trial l = clash l.access (fired_in l.tried) ≡ clash l.access (fired_in (drop l.trial-index l.tried))
