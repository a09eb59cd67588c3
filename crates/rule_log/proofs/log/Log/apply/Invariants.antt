use Rattle.std.proofs.Common.{◌≡◌, take, length}
use Rattle.rule_log.proofs.Joins.{AppliedAt, UnappliedAt}
use Rattle.rule_log.proofs.Walks.{Walked}
use Rattle.rule_log.proofs.log.Log.apply.Given as goal

abbrev pub invariant-loop-register : goal.invariant-loop-register
invariant-loop-register l =
    record {
      count : length l.regs ≡ length l.fn.regs;
      walked : Walked (AppliedAt l.self l.fn.regs l.regs) (UnappliedAt l.fn.regs l.regs) (take l.register-index l.register-items);
    }
