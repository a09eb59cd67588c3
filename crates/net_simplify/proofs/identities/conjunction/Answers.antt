use Rattle.net_simplify.proofs.Units.{and-ones_first, and-ones_second, and-same, and-zero_first, and-zero_second}
use Rattle.net_simplify.proofs.identities.conjunction.Goals as goal

pub returns-in-Zero-default-clause-holds : goal.returns-in-Zero-default-clause-holds
returns-in-Zero-default-clause-holds c = and-zero_first c.args.a c.args.b c.args.same c.in-Zero-default.is-0

pub returns-in-Ones-default-clause-holds : goal.returns-in-Ones-default-clause-holds
returns-in-Ones-default-clause-holds c = and-ones_first c.args.a c.args.b c.args.same c.in-Ones-default.is-0

pub returns-in_default-Zero-clause-holds : goal.returns-in_default-Zero-clause-holds
returns-in_default-Zero-clause-holds c = and-zero_second c.args.a c.args.b c.args.same c.in_default-Zero.is-1

pub returns-in_default-Ones-clause-holds : goal.returns-in_default-Ones-clause-holds
returns-in_default-Ones-clause-holds c = and-ones_second c.args.a c.args.b c.args.same c.in_default-Ones.is-1

pub returns-in_default-clause-holds : goal.returns-in_default-clause-holds
returns-in_default-clause-holds c = and-same c.args.a c.args.b c.args.same c.if-same.true
