use Rattle.std.proofs.Common.{◌≡◌, length}
use Rattle.aiger_text.specs.Cuts as cuts
use Rattle.aiger_text.proofs.cuts.without_returns.Given as goal

abbrev pub invariant-loop-last : goal.invariant-loop-last
invariant-loop-last l = cuts.without_returns l.front ≡ cuts.without_returns l.line

abbrev pub decreases-loop-last : goal.decreases-loop-last
decreases-loop-last l = length l.front
