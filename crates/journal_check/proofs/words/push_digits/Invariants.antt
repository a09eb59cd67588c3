use Rattle.std.proofs.Common.{◌≡◌, ◌++◌, ◌≤◌}
use Rattle.stim_report.specs.Report.{hex_digits}
use Rattle.journal_check.proofs.words.push_digits.Given as goal

-- the digits below the place are left
abbrev pub invariant-loop-place : goal.invariant-loop-place
invariant-loop-place l = (l.place ≤ l.count) × (l.text ++ hex_digits l.place l.number ≡ l.fn.text ++ hex_digits l.count l.number)
