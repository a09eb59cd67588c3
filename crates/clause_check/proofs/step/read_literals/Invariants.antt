use Rattle.std.proofs.Common.{◌≡◌, length}
use Rattle.clause_check.specs.Lines.{tokens_of}
use Rattle.clause_check.specs.Steps.{literals_in}
use Rattle.clause_check.specs.inner.Tokens.{AreWithin}
use Rattle.clause_check.proofs.ReadingLists.{with_literals}
use Rattle.clause_check.proofs.step.read_literals.Given as goal

abbrev pub invariant-tokens : goal.invariant-tokens
invariant-tokens l =
    record {
      same : with_literals l.literals.items (literals_in l.variables (tokens_of l.rest)) ≡ literals_in l.variables (tokens_of l.bytes);
      within : AreWithin l.variables l.literals.items;
    }

abbrev pub decreases-tokens : goal.decreases-tokens
decreases-tokens l = length l.rest
