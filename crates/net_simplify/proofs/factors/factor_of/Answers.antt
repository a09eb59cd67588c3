use Rattle.net_simplify.proofs.Standing.{within_node}
use Rattle.net_simplify.proofs.factors.factor_of.Goals as goal

pub or_factor-requires-clause-first : goal.or_factor-requires-clause-first
or_factor-requires-clause-first c = within_node c.args.net.now c.requires.net c.args.a c.requires.stands.0

pub or_factor-requires-clause-second : goal.or_factor-requires-clause-second
or_factor-requires-clause-second c = within_node c.args.net.now c.requires.net c.args.b c.requires.stands.1

pub and_factor-requires-clause-first : goal.and_factor-requires-clause-first
and_factor-requires-clause-first c = within_node c.args.net.now c.requires.net c.args.a c.requires.stands.0

pub and_factor-requires-clause-second : goal.and_factor-requires-clause-second
and_factor-requires-clause-second c = within_node c.args.net.now c.requires.net c.args.b c.requires.stands.1
