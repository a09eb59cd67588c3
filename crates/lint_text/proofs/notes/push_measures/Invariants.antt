use Rattle.std.proofs.Common.{◌≡◌, ◌++◌, drop}
use Rattle.lint_text.specs.inner.Measured.{measures_from}
use Rattle.lint_text.proofs.notes.push_measures.Given as goal

abbrev pub invariant-loop-rule : goal.invariant-loop-rule
invariant-loop-rule l = l.notes ++ measures_from l.rule (drop l.rule l.measures) ≡ l.fn.notes ++ measures_from 0 l.measures
