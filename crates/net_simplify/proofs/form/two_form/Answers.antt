use Rattle.std.specs.Prelude.{nat_eq}
use Rattle.std.proofs.lemmas.Bool.{eqb-true}
use Rattle.net_simplify.proofs.Forming.{two-false, two-first, two-not_first, two-not_second, two-second, two-true, two-zero}
use Rattle.net_simplify.proofs.Standing.{within_node}
use Rattle.net_simplify.proofs.form.two_form.Goals as goal

pub known_at-requires-clause-node : goal.known_at-requires-clause-node
known_at-requires-clause-node c = within_node c.args.net.now c.requires.lean.is_net c.args.a c.requires.stands.0

pub known_at-requires-2-clause-node : goal.known_at-requires-2-clause-node
known_at-requires-2-clause-node c = within_node c.args.net.now c.requires.lean.is_net c.args.b c.requires.stands.1

pub width-requires : goal.width-requires
width-requires c = within_node c.args.net.now c.requires.lean.is_net c.args.a c.requires.stands.0

pub returns-in-First : goal.returns-in-First
returns-in-First c = two-first c.args.net.now c.requires.lean c.args.operator c.args.a c.args.b c.requires.stands c.known_at.result c.known_at-2.result (nat_eq c.args.a c.args.b) c.known_at.ensures c.known_at-2.ensures (eqb-true c.args.a c.args.b) c.in-First.ensures.holds c.in-First.ensures.width

pub returns-in-Second : goal.returns-in-Second
returns-in-Second c = two-second c.args.net.now c.requires.lean c.args.operator c.args.a c.args.b c.requires.stands c.known_at.result c.known_at-2.result (nat_eq c.args.a c.args.b) c.known_at.ensures c.known_at-2.ensures (eqb-true c.args.a c.args.b) c.in-Second.ensures.holds c.in-Second.ensures.width

pub returns-in-NotFirst : goal.returns-in-NotFirst
returns-in-NotFirst c = two-not_first c.args.net.now c.requires.lean c.args.operator c.args.a c.args.b c.requires.stands c.known_at.result c.known_at-2.result (nat_eq c.args.a c.args.b) c.known_at.ensures c.known_at-2.ensures (eqb-true c.args.a c.args.b) c.in-NotFirst.ensures.holds c.in-NotFirst.ensures.width c.not_form.result c.not_form.ensures

pub returns-in-NotSecond : goal.returns-in-NotSecond
returns-in-NotSecond c = two-not_second c.args.net.now c.requires.lean c.args.operator c.args.a c.args.b c.requires.stands c.known_at.result c.known_at-2.result (nat_eq c.args.a c.args.b) c.known_at.ensures c.known_at-2.ensures (eqb-true c.args.a c.args.b) c.in-NotSecond.ensures.holds c.in-NotSecond.ensures.width c.not_form-in-NotSecond.result c.not_form-in-NotSecond.ensures

pub returns-in-Zero : goal.returns-in-Zero
returns-in-Zero c = two-zero c.args.net.now c.requires.lean c.args.operator c.args.a c.args.b c.requires.stands c.known_at.result c.known_at-2.result (nat_eq c.args.a c.args.b) c.known_at.ensures c.known_at-2.ensures (eqb-true c.args.a c.args.b) c.in-Zero.ensures.holds c.in-Zero.ensures.width c.zero.result c.width.result c.zero.ensures c.width.ensures.width

pub returns-in-False : goal.returns-in-False
returns-in-False c = two-false c.args.net.now c.requires.lean c.args.operator c.args.a c.args.b c.requires.stands c.known_at.result c.known_at-2.result (nat_eq c.args.a c.args.b) c.known_at.ensures c.known_at-2.ensures (eqb-true c.args.a c.args.b) c.in-False.ensures.holds c.in-False.ensures.width c.zero-in-False.result c.zero-in-False.ensures

pub returns-in-True : goal.returns-in-True
returns-in-True c = two-true c.args.net.now c.requires.lean c.args.operator c.args.a c.args.b c.requires.stands c.known_at.result c.known_at-2.result (nat_eq c.args.a c.args.b) c.known_at.ensures c.known_at-2.ensures (eqb-true c.args.a c.args.b) c.in-True.ensures.holds c.in-True.ensures.width c.not.result c.zero-in-True.result c.not.ensures c.zero-in-True.ensures
