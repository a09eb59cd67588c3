use Rattle.std.proofs.Common.{◌++◌, ◌≤◌, ℕ, List, length, ap, ◌∙◌, arith}
use Rattle.aig_blast.specs.declared.aig.OutputBit.{OutputBit}
use Rattle.aiger_text.specs.Printing.{one_of, output_symbol, symbol_text}
use Rattle.aiger_text.proofs.Laid.{laid-step, place-ones}
use Rattle.aiger_text.proofs.print.push_output_symbols.Goals as goal

pub loop-k-preserved : goal.loop-k-preserved
loop-k-preserved c =
    let within : c.loop-k.k ≤ length c.args.outputs.now = omega arith in
    laid-step one_of output_symbol 0 c.args.outputs.now c.loop-k.k c.index-outputs-k.result c.args.text.now c.loop-k.text c.push_symbol.new.text c.loop-k.k c.loop-k-test.true (omega (arith, place-ones c.args.outputs.now c.loop-k.k within)) c.loop-k.invariant
    (c.in_ok-push_symbol.ensures ∙ ap (λ (name : List ℕ). c.loop-k.text ++ symbol_text 111 c.loop-k.k name) c.as_slice.ensures ∙ ap (λ (output : OutputBit). c.loop-k.text ++ output_symbol c.loop-k.k output) c.index-outputs-k.is)
