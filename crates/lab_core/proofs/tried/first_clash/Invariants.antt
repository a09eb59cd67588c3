use Rattle.std.proofs.Common.{◌≡◌, drop}
use Rattle.attempt_log.specs.Verdict.{first_clash}
use Rattle.lab_core.proofs.tried.first_clash.Given as goal

-- the first of the accesses from here on
abbrev pub invariant-loop-number : goal.invariant-loop-number
invariant-loop-number l = l.first ≡ first_clash l.access (drop l.number l.events)
