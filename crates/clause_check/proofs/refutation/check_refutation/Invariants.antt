use Rattle.std.proofs.Common.{◌≡◌, length}
use Rattle.kw_base.specs.Texts.{lines_of}
use Rattle.clause_check.specs.Refutations.{fault_from, fault_of}
use Rattle.clause_check.specs.inner.Progresses.{IsReady, progress_of}
use Rattle.clause_check.proofs.refutation.check_refutation.Given as goal

abbrev pub invariant-loop-cut : goal.invariant-loop-cut
invariant-loop-cut l =
    record {
      ready : IsReady l.variables l.checker;
      same : fault_from l.variables (progress_of l.checker.database) l.number (lines_of l.rest) ≡ fault_of l.formula l.first_line l.bytes;
    }

abbrev pub decreases-loop-cut : goal.decreases-loop-cut
decreases-loop-cut l = length l.rest
