use Rattle.net_simplify.proofs.Choosing.{choice-bit, choice-ones, choice-same, choice-zero}
use Rattle.net_simplify.proofs.choices.choice_of.Goals as goal

pub returns-in-Ones-clause-comes_to : goal.returns-in-Ones-clause-comes_to
returns-in-Ones-clause-comes_to c = choice-ones c.args.condition c.args.a c.args.b c.args.one_bit c.args.same c.in-Ones.is

pub returns-in-Zero-clause-comes_to : goal.returns-in-Zero-clause-comes_to
returns-in-Zero-clause-comes_to c = choice-zero c.args.condition c.args.a c.args.b c.args.one_bit c.args.same c.in-Zero.is

pub returns-in_default-clause-comes_to : goal.returns-in_default-clause-comes_to
returns-in_default-clause-comes_to c = choice-same c.args.condition c.args.a c.args.b c.args.one_bit c.args.same c.if-same.true

pub returns-in_default-2-clause-comes_to : goal.returns-in_default-2-clause-comes_to
returns-in_default-2-clause-comes_to c = choice-bit c.args.condition c.args.a c.args.b c.args.one_bit c.args.same c.if-one_bit.true c.bit_choice.result c.bit_choice.ensures.comes_to
