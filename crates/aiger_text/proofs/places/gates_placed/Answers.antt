use Rattle.std.proofs.Common.{sym, ◌∙◌, arith}
use Rattle.aiger_text.proofs.Placing.{gates_placed-end, gates_placed-fault, gates_placed-more, joined-none}
use Rattle.aiger_text.proofs.places.gates_placed.Goals as goal

pub returns-in_default-clause-fault : goal.returns-in_default-clause-fault
returns-in_default-clause-fault c =
    rw c.undefined.ensures
    (gates_placed-fault c.args.variables.now c.args.gates.now c.loop-gate.bound c.loop-gate.gate-index c.loop-gate.number _ c.loop-gate.found.items _ c.loop-gate-test.true (sym c.in_default.is ∙ c.placed_gate.ensures)
    c.loop-gate.invariant.so_far)

pub loop-gate-init : goal.loop-gate-init
loop-gate-init c = record { bound = omega arith; so_far = joined-none c.in_ok-found.found.items _ c.in_ok-found.ensures.items }

pub loop-gate-preserved : goal.loop-gate-preserved
loop-gate-preserved c = record {
  bound = omega arith;
  so_far =
      gates_placed-more c.args.variables.now c.args.gates.now c.loop-gate.bound c.loop-gate.gate-index c.loop-gate.number c.saturating_add-number.result _ c.in-Some.other c.loop-gate.found.items c.push.new.self.items _
      c.loop-gate-test.true c.saturating_add-number.ensures (sym c.in-Some.is ∙ c.placed_gate.ensures) c.in_ok-push.ensures.items c.loop-gate.invariant.so_far;
}

pub returns : goal.returns
returns c = record {
  placed = gates_placed-end c.args.variables.now c.args.gates.now c.loop-gate.bound c.loop-gate.gate-index c.loop-gate.number c.loop-gate.found.items _ c.loop-gate-test.false c.loop-gate.invariant.so_far;
  fault = tt;
}
