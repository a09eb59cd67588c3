use Rattle.net_simplify.proofs.Units.{sub-same, sub-zero}
use Rattle.net_simplify.proofs.identities.difference.Goals as goal

pub returns-in-Zero-clause-holds : goal.returns-in-Zero-clause-holds
returns-in-Zero-clause-holds c = sub-zero c.args.a c.args.b c.args.same c.in-Zero.is

pub returns-in_default-clause-holds : goal.returns-in_default-clause-holds
returns-in_default-clause-holds c = sub-same c.args.a c.args.b c.args.same c.if-same.true
