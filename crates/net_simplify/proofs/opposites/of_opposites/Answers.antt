use Rattle.std.proofs.Common.{◌≡◌, ℕ, sym, subst}
use Rattle.kw_bits.specs.BitVector.{BitVector}
use Rattle.net_graph.specs.declared.node.NetTwo.{NetTwo}
use Rattle.net_graph.specs.declared.node.NetTwo.TheVariants.{And, Or, Xor}
use Rattle.net_simplify.specs.inner.Forms.{IsOfOpposites}
use Rattle.net_simplify.proofs.Opposing.{and-opposite, or-opposite, xor-opposite}
use Rattle.net_simplify.proofs.opposites.of_opposites.Goals as goal

at_operator : (operator other : NetTwo) (width : ℕ) (result : BitVector) → operator ≡ other → IsOfOpposites other width result → IsOfOpposites operator width result
at_operator operator other width result e h = subst (λ (o : NetTwo). IsOfOpposites o width result) (sym e) h

pub returns-in-And : goal.returns-in-And
returns-in-And c = at_operator c.args.operator And c.args.width c.zero.result c.in-And.is (and-opposite c.args.width c.zero.result c.zero.ensures)

pub returns-in-Or : goal.returns-in-Or
returns-in-Or c = at_operator c.args.operator Or c.args.width c.not.result c.in-Or.is (or-opposite c.args.width c.not.result c.zero-in-Or.result c.not.ensures c.zero-in-Or.ensures)

pub returns-in-Xor : goal.returns-in-Xor
returns-in-Xor c = at_operator c.args.operator Xor c.args.width c.not-in-Xor.result c.in-Xor.is (xor-opposite c.args.width c.not-in-Xor.result c.zero-in-Xor.result c.not-in-Xor.ensures c.zero-in-Xor.ensures)
