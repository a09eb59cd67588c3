use Rattle.lab_core.proofs.Cycles.{finds_first_values, finds_what_was_left}
use Rattle.lab_core.proofs.laws.each_cycle_finds_what_was_left.Goals as goal

pub returns-clause-first : goal.returns-clause-first
returns-clause-first c = finds_first_values

pub returns-clause-later : goal.returns-clause-later
returns-clause-later c = finds_what_was_left
