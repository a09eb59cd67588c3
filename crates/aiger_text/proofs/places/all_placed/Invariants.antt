use Rattle.std.proofs.Common.{◌≡◌, drop}
use Rattle.aiger_text.specs.Reading.{all_placed}
use Rattle.aiger_text.proofs.Placing.{joined_to}
use Rattle.aiger_text.proofs.places.all_placed.Given as goal

abbrev pub invariant-loop-lit : goal.invariant-loop-lit
invariant-loop-lit l = all_placed l.variables l.bound l.first_line l.lits ≡ joined_to l.found.items (all_placed l.variables l.bound l.number (drop l.lit-index l.lits))
