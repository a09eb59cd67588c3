use Rattle.std.proofs.Common.{refl}
use Rattle.net_simplify.proofs.Factoring.{common-first_first, common-first_second, common-second_first, common-second_second}
use Rattle.net_simplify.proofs.factors.common_of.Goals as goal

pub returns-then-are_opposite : goal.returns-then-are_opposite
returns-then-are_opposite c = common-first_first c.args.net.now c.requires.net c.args.p c.args.q c.args.r c.args.t c.requires.one c.requires.other c.if-p-r.true (c.if-are_opposite.ensures refl)

pub returns-then-are_opposite-2 : goal.returns-then-are_opposite-2
returns-then-are_opposite-2 c = common-first_second c.args.net.now c.requires.net c.args.p c.args.q c.args.r c.args.t c.requires.one c.requires.other c.if-p-t.true (c.if-are_opposite-2.ensures refl)

pub returns-then-are_opposite-3 : goal.returns-then-are_opposite-3
returns-then-are_opposite-3 c = common-second_first c.args.net.now c.requires.net c.args.p c.args.q c.args.r c.args.t c.requires.one c.requires.other c.if-q-r.true (c.if-are_opposite-3.ensures refl)

pub returns-then-are_opposite-4 : goal.returns-then-are_opposite-4
returns-then-are_opposite-4 c = common-second_second c.args.net.now c.requires.net c.args.p c.args.q c.args.r c.args.t c.requires.one c.requires.other c.if-q-t.true (c.if-are_opposite-4.ensures refl)
