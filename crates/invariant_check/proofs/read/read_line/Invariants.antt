use Rattle.std.proofs.Common.{◌≡◌, ◌+◌, length}
use Rattle.std.specs.List.{All}
use Rattle.clause_check.specs.Clauses.{IsLiteral}
use Rattle.invariant_check.specs.Bits.{register_bits}
use Rattle.invariant_check.specs.Invariants.{literals_of}
use Rattle.invariant_check.specs.Words.{words_from}
use Rattle.invariant_check.specs.inner.Reading.{after_literals}
use Rattle.invariant_check.proofs.read.read_line.Given as goal

abbrev pub invariant-loop-word : goal.invariant-loop-word
invariant-loop-word l =
    let bits = register_bits l.registers.latches.now in
    record {
      line : after_literals l.clause.items (literals_of bits l.line (words_from l.column l.rest))
          ≡ literals_of bits l.line (words_from 1 l.bytes);
      column : l.column + length l.rest ≡ 1 + length l.bytes;
      literals : All (IsLiteral (length bits)) l.clause.items;
    }

abbrev pub decreases-loop-word : goal.decreases-loop-word
decreases-loop-word l = length l.rest
