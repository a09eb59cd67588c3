use Rattle.std.proofs.Common.{◌∙◌, arith}
use Rattle.lint_text.specs.Notes.{is_of}
use Rattle.lint_text.proofs.Marked.{marked_more}
use Rattle.lint_text.proofs.note.Use.mark_all.Goals as goal

pub loop-occurrence-preserved : goal.loop-occurrence-preserved
loop-occurrence-preserved c = (
  c.mark.ensures.count ∙ c.loop-occurrence.invariant.0,
  λ number within.
      marked_more (is_of c.args.self number) c.args.occurrences.now c.loop-occurrence.occurrence-index _ _ _ _
      (c.mark.ensures.marks number (omega (arith, within, c.loop-occurrence.invariant.0))) (c.loop-occurrence.invariant.1 number within) c.loop-occurrence-test.true,
)
