use Rattle.attempt_log.proofs.Commits.{alone_gives_traces, traces_fit}
use Rattle.attempt_log.proofs.laws.a_rule_alone_gives_a_trace.Goals as goal

pub returns-clause-alone : goal.returns-clause-alone
returns-clause-alone c = alone_gives_traces

pub returns-clause-fits : goal.returns-clause-fits
returns-clause-fits c = traces_fit
