use Rattle.std.proofs.Common.{◌≡◌, ◌≤◌, length}
use Rattle.kw_base.specs.Texts.{lines_of}
use Rattle.journal_check.specs.Reading.{number_after}
use Rattle.journal_check.proofs.count.line_after.Given as goal

-- the lines that are left lead to the same number
abbrev pub invariant-loop-line : goal.invariant-loop-line
invariant-loop-line l =
    record {
      few : l.number ≤ 4294967295;
      same : number_after l.number (length (lines_of l.rest)) ≡ number_after l.first_line (length (lines_of l.text));
    }

abbrev pub decreases-loop-line : goal.decreases-loop-line
decreases-loop-line l = length l.rest
