use Rattle.std.proofs.Common.{◌+◌, ◌≤◌, length, sym, ap, arith}
use Rattle.aiger_text.specs.Printing.{gate_text, one_of}
use Rattle.aiger_text.proofs.Laid.{laid-step, place-ones}
use Rattle.aiger_text.proofs.print.push_gates.Goals as goal

pub loop-k-preserved : goal.loop-k-preserved
loop-k-preserved c =
    let within : c.loop-k.k ≤ length c.args.gates.now = omega arith in
    laid-step one_of gate_text c.args.first c.args.gates.now c.loop-k.k _ c.args.text.now c.loop-k.text c.push_line.new.text (c.args.first + c.loop-k.k) c.loop-k-test.true (ap (λ n. c.args.first + n) (sym (place-ones c.args.gates.now c.loop-k.k within))) c.loop-k.invariant c.in_ok-push_line.ensures
