use Rattle.net_simplify.proofs.Units.{add-zero_first, add-zero_second}
use Rattle.net_simplify.proofs.identities.sum.Goals as goal

pub returns-in-Zero-default-clause-holds : goal.returns-in-Zero-default-clause-holds
returns-in-Zero-default-clause-holds c = add-zero_first c.args.a c.args.b c.args.same c.in-Zero-default.is-0

pub returns-in_default-Zero-clause-holds : goal.returns-in_default-Zero-clause-holds
returns-in_default-Zero-clause-holds c = add-zero_second c.args.a c.args.b c.args.same c.in_default-Zero.is-1
