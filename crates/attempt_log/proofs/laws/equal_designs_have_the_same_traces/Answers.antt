use Rattle.attempt_log.proofs.Alike.{equal_designs_trace_alike}
use Rattle.attempt_log.proofs.laws.equal_designs_have_the_same_traces.Goals as goal

pub returns : goal.returns
returns c = equal_designs_trace_alike
