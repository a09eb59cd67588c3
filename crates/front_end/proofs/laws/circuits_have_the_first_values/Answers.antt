use Rattle.front_end.proofs.FirstValues.{aig-first, circuit-first}
use Rattle.front_end.proofs.laws.circuits_have_the_first_values.Goals as goal

pub returns-clause-words : goal.returns-clause-words
returns-clause-words c = λ d circuit typed is. circuit-first d typed circuit is

pub returns-clause-bits : goal.returns-clause-bits
returns-clause-bits c = λ d aig typed is. aig-first d typed aig is
