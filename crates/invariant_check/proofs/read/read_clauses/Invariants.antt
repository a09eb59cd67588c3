use Rattle.std.proofs.Common.{◌≡◌, List, length, sum}
use Rattle.kw_base.specs.Texts.{lines_of}
use Rattle.aig_blast.specs.AigRun.{first_words}
use Rattle.aig_blast.specs.Aigs.{latch_widths}
use Rattle.invariant_check.specs.Bits.{bit_values, register_bits}
use Rattle.invariant_check.specs.Invariants.{Numbered, clauses_from, false_line, only_clauses}
use Rattle.invariant_check.specs.Kept.{HaveLiterals}
use Rattle.invariant_check.specs.inner.Reading.{after_clauses}
use Rattle.invariant_check.proofs.read.read_clauses.Given as goal

-- some clauses were read, and with those of the lines that are left they are all
abbrev pub invariant-loop-cut : goal.invariant-loop-cut
invariant-loop-cut l =
    let bits = register_bits l.registers.latches.now in
    record {
      read : (front : List Numbered)
          × (after_clauses front (clauses_from bits l.number (lines_of l.rest))
          ≡ clauses_from bits l.first_line (lines_of l.bytes))
          × (only_clauses front ≡ l.formula.clauses)
          × (false_line (bit_values (first_words l.registers.latches.now)) front ≡ l.false_line);
      literals : HaveLiterals l.formula.clauses;
      variables : l.formula.variables ≡ sum (latch_widths l.registers.latches.now);
    }

abbrev pub decreases-loop-cut : goal.decreases-loop-cut
decreases-loop-cut l = length l.rest
