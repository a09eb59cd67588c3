use Rattle.std.proofs.Common.{◌≡◌, sym, subst}
use Rattle.net_graph.specs.declared.node.NetTwo.{NetTwo}
use Rattle.net_graph.specs.declared.node.NetTwo.TheVariants.{EqBits, Neq, Ult, Ulte, Ugt, Ugte, Slt, Slte, Sgt, Sgte}
use Rattle.net_simplify.specs.inner.Forms.{IsOpposite}
use Rattle.net_simplify.proofs.Opposing.{eq-neq, neq-eq, sgt-slte, sgte-slt, slt-sgte, slte-sgt, ugt-ulte, ugte-ult, ult-ugte, ulte-ugt}
use Rattle.net_simplify.proofs.opposites.opposite.Goals as goal

at_operator : (operator other opposite : NetTwo) → operator ≡ other → IsOpposite other opposite → IsOpposite operator opposite
at_operator operator other opposite e h = subst (λ (o : NetTwo). IsOpposite o opposite) (sym e) h

pub returns-in-EqBits : goal.returns-in-EqBits
returns-in-EqBits c = at_operator c.args.operator EqBits Neq c.in-EqBits.is eq-neq

pub returns-in-Neq : goal.returns-in-Neq
returns-in-Neq c = at_operator c.args.operator Neq EqBits c.in-Neq.is neq-eq

pub returns-in-Ult : goal.returns-in-Ult
returns-in-Ult c = at_operator c.args.operator Ult Ugte c.in-Ult.is ult-ugte

pub returns-in-Ulte : goal.returns-in-Ulte
returns-in-Ulte c = at_operator c.args.operator Ulte Ugt c.in-Ulte.is ulte-ugt

pub returns-in-Ugt : goal.returns-in-Ugt
returns-in-Ugt c = at_operator c.args.operator Ugt Ulte c.in-Ugt.is ugt-ulte

pub returns-in-Ugte : goal.returns-in-Ugte
returns-in-Ugte c = at_operator c.args.operator Ugte Ult c.in-Ugte.is ugte-ult

pub returns-in-Slt : goal.returns-in-Slt
returns-in-Slt c = at_operator c.args.operator Slt Sgte c.in-Slt.is slt-sgte

pub returns-in-Slte : goal.returns-in-Slte
returns-in-Slte c = at_operator c.args.operator Slte Sgt c.in-Slte.is slte-sgt

pub returns-in-Sgt : goal.returns-in-Sgt
returns-in-Sgt c = at_operator c.args.operator Sgt Slte c.in-Sgt.is sgt-slte

pub returns-in-Sgte : goal.returns-in-Sgte
returns-in-Sgte c = at_operator c.args.operator Sgte Slt c.in-Sgte.is sgte-slt
