use Rattle.net_simplify.proofs.Choosing.{bit-and, bit-condition, bit-not_condition, bit-or}
use Rattle.net_simplify.proofs.choices.bit_choice.Goals as goal

pub returns-in-Ones-Zero-clause-comes_to : goal.returns-in-Ones-Zero-clause-comes_to
returns-in-Ones-Zero-clause-comes_to c = bit-condition c.args.a c.args.b c.in-Ones-Zero.is-0 c.in-Ones-Zero.is-1

pub returns-in-Zero-Ones-clause-comes_to : goal.returns-in-Zero-Ones-clause-comes_to
returns-in-Zero-Ones-clause-comes_to c = bit-not_condition c.args.a c.args.b c.in-Zero-Ones.is-0 c.in-Zero-Ones.is-1

pub returns-in-Ones-default-clause-comes_to : goal.returns-in-Ones-default-clause-comes_to
returns-in-Ones-default-clause-comes_to c = bit-or c.args.a c.args.b c.in-Ones-default.is-0

pub returns-in_default-Zero-clause-comes_to : goal.returns-in_default-Zero-clause-comes_to
returns-in_default-Zero-clause-comes_to c = bit-and c.args.a c.args.b c.in_default-Zero.is-1

pub returns-in_default-Zero-2-clause-comes_to : goal.returns-in_default-Zero-2-clause-comes_to
returns-in_default-Zero-2-clause-comes_to c = bit-and c.args.a c.args.b c.in_default-Zero.is-1
