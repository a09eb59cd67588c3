use Rattle.lint_text.specs.Text.{after_comma}
use Rattle.lint_text.proofs.Ranges.{flat_more_at}
use Rattle.lint_text.proofs.words.push_after_commas.Goals as goal

pub loop-access-preserved : goal.loop-access-preserved
loop-access-preserved c =
    flat_more_at after_comma c.args.accesses.now c.loop-access.access-index _ c.args.text.now c.loop-access.text _ c.in_ok-push_after_comma.ensures
    c.loop-access.invariant c.loop-access-test.true
