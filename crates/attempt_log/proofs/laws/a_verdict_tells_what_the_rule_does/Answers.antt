use Rattle.attempt_log.proofs.Commits.{commits_fire, skips_do_not_fire}
use Rattle.attempt_log.proofs.laws.a_verdict_tells_what_the_rule_does.Goals as goal

pub returns-clause-commit : goal.returns-clause-commit
returns-clause-commit c = commits_fire

pub returns-clause-skip : goal.returns-clause-skip
returns-clause-skip c = skips_do_not_fire
