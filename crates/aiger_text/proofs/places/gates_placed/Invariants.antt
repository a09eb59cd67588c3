use Rattle.std.proofs.Common.{◌≡◌, ◌+◌, drop}
use Rattle.aiger_text.specs.Reading.{gates_placed}
use Rattle.aiger_text.proofs.Placing.{joined_to}
use Rattle.aiger_text.proofs.places.gates_placed.Given as goal

abbrev pub invariant-loop-gate : goal.invariant-loop-gate
invariant-loop-gate l = record {
  bound : l.bound ≡ l.first_bound + l.gate-index;
  so_far : gates_placed l.variables l.first_bound l.first_line l.gates ≡ joined_to l.found.items (gates_placed l.variables l.bound l.number (drop l.gate-index l.gates));
}
