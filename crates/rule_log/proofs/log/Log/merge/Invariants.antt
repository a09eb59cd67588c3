use Rattle.std.proofs.Common.{◌≡◌, ℕ, take}
use Rattle.rule_log.specs.inner.OneRegister.{JoinedAt, SameAt}
use Rattle.rule_log.specs.StandsFor.{registers}
use Rattle.rule_log.proofs.Walks.{Walked}
use Rattle.rule_log.proofs.log.Log.merge.Given as goal

abbrev pub invariant-loop-register : goal.invariant-loop-register
invariant-loop-register l =
    record {
      count : registers l.self ≡ registers l.fn.self;
      walked : Walked (λ (r : ℕ). JoinedAt l.fn.self l.rule l.self r) (λ (r : ℕ). SameAt l.fn.self l.self r) (take l.register-index l.register-items);
    }
