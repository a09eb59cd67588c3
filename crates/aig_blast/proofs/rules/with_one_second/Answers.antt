use Rattle.std.proofs.Common.{sym, ap, arith}
use Rattle.aig_blast.specs.Graphs.{choice}
use Rattle.aig_blast.proofs.rules.with_one_second.Goals as goal

pub returns-in-Some-clause-first : goal.returns-in-Some-clause-first
returns-in-Some-clause-first c count v values a b = c.in-Some.ensures.same count v c.args.a values a

pub returns-in-Some-clause-second : goal.returns-in-Some-clause-second
returns-in-Some-clause-second c count v values a b = record {
  stands = b.stands;
  condition = omega arith;
  first = (c.in-Some.ensures.same count v c.args.a values a).first;
  second = b.stands;
  value = sym (ap (λ x. choice x (v c.in-Some.m.first) (v c.args.b)) values.at_zero);
}

pub returns-in-Some-turned_to-clause-first : goal.returns-in-Some-turned_to-clause-first
returns-in-Some-turned_to-clause-first c count v values a b = record {
  stands = a.stands;
  condition = omega arith;
  first = (c.in-Some-turned_to.ensures.same count v c.args.b values b).first;
  second = a.stands;
  value = sym (ap (λ x. choice x (v c.in-Some-turned_to.m.first) (v c.args.a)) values.at_zero);
}

pub returns-in-Some-turned_to-clause-second : goal.returns-in-Some-turned_to-clause-second
returns-in-Some-turned_to-clause-second c count v values a b = c.in-Some-turned_to.ensures.same count v c.args.b values b

pub returns-in-Some-turned_to-2-clause-second : goal.returns-in-Some-turned_to-2-clause-second
returns-in-Some-turned_to-2-clause-second c count v values a b = c.in-Some-turned_to-2.ensures.same count v c.args.b values b

pub returns-clause-first : goal.returns-clause-first
returns-clause-first c count v values a b = c.turned.ensures.same count v c.args.a values a

pub returns-clause-second : goal.returns-clause-second
returns-clause-second c count v values a b = c.in_ok-m.ensures.same count v c.args.b values b
