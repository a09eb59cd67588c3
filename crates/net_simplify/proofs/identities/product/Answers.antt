use Rattle.net_simplify.proofs.Units.{mul-one_first, mul-one_second, mul-zero_first, mul-zero_second}
use Rattle.net_simplify.proofs.identities.product.Goals as goal

pub returns-in-Zero-default-clause-holds : goal.returns-in-Zero-default-clause-holds
returns-in-Zero-default-clause-holds c = mul-zero_first c.args.a c.args.b c.args.same c.in-Zero-default.is-0

pub returns-in-One-default-clause-holds : goal.returns-in-One-default-clause-holds
returns-in-One-default-clause-holds c = mul-one_first c.args.a c.args.b c.args.same c.in-One-default.is-0

pub returns-in_default-Zero-clause-holds : goal.returns-in_default-Zero-clause-holds
returns-in_default-Zero-clause-holds c = mul-zero_second c.args.a c.args.b c.args.same c.in_default-Zero.is-1

pub returns-in_default-One-clause-holds : goal.returns-in_default-One-clause-holds
returns-in_default-One-clause-holds c = mul-one_second c.args.a c.args.b c.args.same c.in_default-One.is-1
