use Rattle.std.proofs.Common.{[], ap, ◌∙◌}
use Rattle.std.proofs.lemmas.Result.{IfOk-weaker}
use Rattle.stim_report.specs.Summary.{totals_text}
use Rattle.stim_report.proofs.TotalsOfBatches.{fits_none, begins_at_zero}
use Rattle.stim_report.proofs.tally.summary.Goals as goal

pub add-requires-clause-fit : goal.add-requires-clause-fit
add-requires-clause-fit c = fits_none c.args.shape.now c.in_ok-tally.tally c.args.rows.now c.in_ok-tally.ensures c.requires.fit

pub add-requires-clause-goes_on : goal.add-requires-clause-goes_on
add-requires-clause-goes_on c = begins_at_zero c.args.shape.now c.in_ok-tally.tally c.in_ok-tally.ensures

pub returns : goal.returns
returns c = IfOk-weaker c.text.result _ _ (λ text is. is ∙ ap totals_text (c.add.ensures.joined c.args.shape.now [] tt c.in_ok-tally.ensures)) c.text.ensures
