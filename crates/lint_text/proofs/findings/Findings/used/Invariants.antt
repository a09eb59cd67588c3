use Rattle.std.proofs.Common.{◌≡◌, ◌<◌, ℕ, length}
use Rattle.std.specs.List.{list_any, range_with_len}
use Rattle.lint_text.specs.Findings.{is_set}
use Rattle.lint_text.proofs.Marked.{uses_by}
use Rattle.lint_text.proofs.findings.Findings.used.Given as goal

abbrev pub invariant-loop-rule : goal.invariant-loop-rule
invariant-loop-rule l = (length l.marks ≡ l.fn.count) × ((number : ℕ) → number < l.fn.count → is_set l.marks number ≡ list_any (uses_by l.fn.design l.fn.of number) (range_with_len 0 l.rule))
