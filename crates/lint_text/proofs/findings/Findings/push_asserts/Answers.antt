use Rattle.lint_text.specs.Findings.{order_of}
use Rattle.lint_text.specs.Notes.{assert_notes}
use Rattle.lint_text.proofs.Ranges.{flat_more_at}
use Rattle.lint_text.proofs.findings.Findings.push_asserts.Goals as goal

pub push_assert-requires-clause-rule : goal.push_assert-requires-clause-rule
push_assert-requires-clause-rule c = c.requires.marks c.loop-mark.mark-index _ c.loop-mark-test.true

pub loop-mark-preserved : goal.loop-mark-preserved
loop-mark-preserved c =
    flat_more_at (assert_notes (order_of c.args.self.now) c.args.design.now) c.args.marks.now c.loop-mark.mark-index _ c.args.notes.now c.loop-mark.notes _
    c.in_ok-push_assert.ensures c.loop-mark.invariant c.loop-mark-test.true
