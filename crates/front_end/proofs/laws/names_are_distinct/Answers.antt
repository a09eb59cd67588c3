use Rattle.front_end.proofs.DistinctNames.{distinct-global, distinct-names, distinct-registers}
use Rattle.front_end.proofs.laws.names_are_distinct.Goals as goal

pub returns-clause-global : goal.returns-clause-global
returns-clause-global c = distinct-global

pub returns-clause-shown : goal.returns-clause-shown
returns-clause-shown c = distinct-names

pub returns-clause-registers : goal.returns-clause-registers
returns-clause-registers c = distinct-registers
