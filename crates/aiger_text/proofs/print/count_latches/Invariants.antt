use Rattle.std.proofs.Common.{◌≡◌, take}
use Rattle.std.specs.Prelude.{sum}
use Rattle.aig_blast.specs.Aigs.{latch_widths}
use Rattle.aiger_text.proofs.print.count_latches.Given as goal

abbrev pub invariant-loop-word : goal.invariant-loop-word
invariant-loop-word l = l.count ≡ sum (latch_widths (take l.word-index l.words))
