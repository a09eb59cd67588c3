use Rattle.std.proofs.Common.{◌≡◌, length}
use Rattle.clause_check.specs.Lines.{tokens_of}
use Rattle.clause_check.specs.Steps.{numbers_in}
use Rattle.clause_check.proofs.ReadingLists.{with_numbers}
use Rattle.clause_check.proofs.step.read_numbers.Given as goal

abbrev pub invariant-tokens : goal.invariant-tokens
invariant-tokens l = with_numbers l.numbers.items (numbers_in (tokens_of l.rest)) ≡ numbers_in (tokens_of l.bytes)

abbrev pub decreases-tokens : goal.decreases-tokens
decreases-tokens l = length l.rest
