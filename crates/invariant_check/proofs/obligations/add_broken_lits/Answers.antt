use Rattle.std.proofs.Common.{◌++◌}
use Rattle.invariant_check.proofs.Drafting.{broken_lits_step}
use Rattle.invariant_check.specs.Obligations.{broken_lits}
use Rattle.invariant_check.proofs.obligations.add_broken_lits.Goals as goal

pub loop-k-preserved : goal.loop-k-preserved
loop-k-preserved c =
    broken_lits_step c.args.variable c.loop-k.k c.args.clauses c.loop-k.lits.items c.push.new.self.items
    (c.args.lits.now.items
    ++ broken_lits c.args.variable c.args.clauses) c.loop-k-test.true c.in_ok-push.ensures.items c.loop-k.invariant
