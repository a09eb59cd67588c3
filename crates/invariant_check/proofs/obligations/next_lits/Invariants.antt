use Rattle.std.proofs.Common.{◌≡◌, take}
use Rattle.invariant_check.specs.Obligations.{next_lits}
use Rattle.invariant_check.proofs.obligations.next_lits.Given as goal

abbrev pub invariant-loop-word : goal.invariant-loop-word
invariant-loop-word l = l.lits.items ≡ next_lits (take l.word-index l.latches)
