use Rattle.koika_check.proofs.Added.{added-assert}
use Rattle.koika_check.proofs.checker.Checker.assertion.Goals as goal

pub returns-clause-kept : goal.returns-clause-kept
returns-clause-kept c =
    rw (c.in_ok-push.ensures.ok, c.set.ensures)
    (added-assert c.args.self.now c.requires c.in_ok-rule.rule c.in_ok-rule.ensures.declared)
