use Rattle.std.proofs.Common.{[], refl, ◌∙◌}
use Rattle.front_end.specs.Marks.{marks_of}
use Rattle.koika_top.proofs.Batches.{goes-on}
use Rattle.koika_top.proofs.Rechecking.{told-at-once}
use Rattle.koika_top.proofs.recheck.report_rows.Goals as goal

pub take-requires-clause-goes_on : goal.take-requires-clause-goes_on
take-requires-clause-goes_on c =
    let it = c.args.lowered.now in
    let marks = marks_of it.checked in
    goes-on c.in_ok-teller.teller it.shape marks [] 0 (c.in_ok-teller.ensures.rows marks c.in_ok-watch.ensures) refl

pub returns : goal.returns
returns c =
    let it = c.args.lowered.now in
    let marks = marks_of it.checked in
    c.in_ok-extend_from_slice.ensures.ok
    ∙ told-at-once c.in_ok-teller.teller _ it.shape marks c.args.rows.now c.in_ok-text.text c.as_slice.result.now (c.in_ok-teller.ensures.rows marks c.in_ok-watch.ensures) c.in_ok-teller.ensures.shown (c.in_ok-text.ensures.rows marks)
    c.in_ok-text.ensures.text (c.as_slice.ensures ∙ c.in_ok-ending.ensures)
