use Rattle.net_simplify.proofs.Units.{xor-ones_first, xor-ones_second, xor-same, xor-zero_first, xor-zero_second}
use Rattle.net_simplify.proofs.identities.exclusion.Goals as goal

pub returns-in-Zero-default-clause-holds : goal.returns-in-Zero-default-clause-holds
returns-in-Zero-default-clause-holds c = xor-zero_first c.args.a c.args.b c.args.same c.in-Zero-default.is-0

pub returns-in-Ones-default-clause-holds : goal.returns-in-Ones-default-clause-holds
returns-in-Ones-default-clause-holds c = xor-ones_first c.args.a c.args.b c.args.same c.in-Ones-default.is-0

pub returns-in_default-Zero-clause-holds : goal.returns-in_default-Zero-clause-holds
returns-in_default-Zero-clause-holds c = xor-zero_second c.args.a c.args.b c.args.same c.in_default-Zero.is-1

pub returns-in_default-Ones-clause-holds : goal.returns-in_default-Ones-clause-holds
returns-in_default-Ones-clause-holds c = xor-ones_second c.args.a c.args.b c.args.same c.in_default-Ones.is-1

pub returns-in_default-clause-holds : goal.returns-in_default-clause-holds
returns-in_default-clause-holds c = xor-same c.args.a c.args.b c.args.same c.if-same.true
