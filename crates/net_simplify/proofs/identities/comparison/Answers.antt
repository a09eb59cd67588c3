use Rattle.std.proofs.Common.{refl}
use Rattle.net_graph.specs.declared.node.NetTwo.TheVariants.{EqBits, Neq, Ult, Ugt, Ulte, Ugte, Slt, Sgt, Slte, Sgte}
use Rattle.net_simplify.specs.declared.identities.Identity.TheVariants.{False, True}
use Rattle.net_simplify.proofs.Comparing.{at_operator, eq-same, neq-same, sgt-same, sgte-same, slt-same, slte-same, ugt-never, ugte-never, ult-never, ulte-never}
use Rattle.net_simplify.proofs.identities.comparison.Goals as goal

pub returns-in-EqBits-clause-holds : goal.returns-in-EqBits-clause-holds
returns-in-EqBits-clause-holds c = at_operator c.args.a c.args.b c.args.same c.args.operator EqBits True c.in-EqBits.is (eq-same c.args.a c.args.b c.args.same c.if-same.true)

pub returns-in-Neq-clause-holds : goal.returns-in-Neq-clause-holds
returns-in-Neq-clause-holds c = at_operator c.args.a c.args.b c.args.same c.args.operator Neq False c.in-Neq.is (neq-same c.args.a c.args.b c.args.same c.if-same-2.true)

pub returns-in-Ult-clause-holds : goal.returns-in-Ult-clause-holds
returns-in-Ult-clause-holds c = at_operator c.args.a c.args.b c.args.same c.args.operator Ult False c.in-Ult.is (ult-never c.args.a c.args.b c.args.same (c.if-is_never_below.ensures refl))

pub returns-in-Ugt-clause-holds : goal.returns-in-Ugt-clause-holds
returns-in-Ugt-clause-holds c = at_operator c.args.a c.args.b c.args.same c.args.operator Ugt False c.in-Ugt.is (ugt-never c.args.a c.args.b c.args.same (c.if-is_never_below-2.ensures refl))

pub returns-in-Ulte-clause-holds : goal.returns-in-Ulte-clause-holds
returns-in-Ulte-clause-holds c = at_operator c.args.a c.args.b c.args.same c.args.operator Ulte True c.in-Ulte.is (ulte-never c.args.a c.args.b c.args.same (c.if-is_never_below-3.ensures refl))

pub returns-in-Ugte-clause-holds : goal.returns-in-Ugte-clause-holds
returns-in-Ugte-clause-holds c = at_operator c.args.a c.args.b c.args.same c.args.operator Ugte True c.in-Ugte.is (ugte-never c.args.a c.args.b c.args.same (c.if-is_never_below-4.ensures refl))

pub returns-in-Slt-clause-holds : goal.returns-in-Slt-clause-holds
returns-in-Slt-clause-holds c = at_operator c.args.a c.args.b c.args.same c.args.operator Slt False c.in-Slt.is (slt-same c.args.a c.args.b c.args.same c.if-same-3.true)

pub returns-in-Sgt-clause-holds : goal.returns-in-Sgt-clause-holds
returns-in-Sgt-clause-holds c = at_operator c.args.a c.args.b c.args.same c.args.operator Sgt False c.in-Sgt.is (sgt-same c.args.a c.args.b c.args.same c.if-same-4.true)

pub returns-in-Slte-clause-holds : goal.returns-in-Slte-clause-holds
returns-in-Slte-clause-holds c = at_operator c.args.a c.args.b c.args.same c.args.operator Slte True c.in-Slte.is (slte-same c.args.a c.args.b c.args.same c.if-same-5.true)

pub returns-in-Sgte-clause-holds : goal.returns-in-Sgte-clause-holds
returns-in-Sgte-clause-holds c = at_operator c.args.a c.args.b c.args.same c.args.operator Sgte True c.in-Sgte.is (sgte-same c.args.a c.args.b c.args.same c.if-same-6.true)
