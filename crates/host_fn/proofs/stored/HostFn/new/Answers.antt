use Rattle.std.proofs.Common.{rules}
use Rattle.host_fn.proofs.stored.HostFn.new.Goals as goal

pub invariant_of-result-clause-answers : goal.invariant_of-result-clause-answers
invariant_of-result-clause-answers g c = c.requires (search rules) (search rules)
