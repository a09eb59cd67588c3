use Rattle.rule_log.proofs.Walks.{JoinedBelow}
use Rattle.rule_log.proofs.log.Log.join_values.Given as goal

abbrev pub invariant-loop-port : goal.invariant-loop-port
invariant-loop-port l = JoinedBelow l.fn.self l.rule l.self l.port l.register
