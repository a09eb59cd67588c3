use Rattle.std.proofs.Common.{arith}
use Rattle.std.proofs.lemmas.List.{length-map}
use Rattle.std.proofs.lemmas.Option.{slice_get_within}
use Rattle.one_rule.proofs.Lines.{IsLine-push}
use Rattle.stim_report.specs.Shapes.{widths_of}
use Rattle.stim_report.specs.declared.shape.NameWidth.{NameWidth}
use Rattle.stim_report.proofs.GivenInputs.{apart_from, given_more}
use Rattle.stim_report.proofs.stimulus.read_word.Goals as goal

pub returns-in_ok-push-in-Ok-clause-given : goal.returns-in_ok-push-in-Ok-clause-given
returns-in_ok-push-in-Ok-clause-given c =
    let widths = widths_of c.args.inputs.now in
    let assigns = c.in-Ok.ensures.assigns in
    let within = slice_get_within widths c.in-Ok.assignment.0 assigns.0 assigns.1 in
    rw c.in_ok-push-in-Ok.ensures.items
    (given_more c.args.given.now.items c.args.line.now.items c.in-Ok.assignment c.requires.given
    (omega (arith, within, length-map c.args.inputs.now (λ (one : NameWidth). one.width), c.requires.count)))

pub returns-in_ok-push-in-Ok-clause-fits : goal.returns-in_ok-push-in-Ok-clause-fits
returns-in_ok-push-in-Ok-clause-fits c =
    let new = rw c.as_slice.ensures.value at c.in-Ok.ensures.new in
    rw c.in_ok-push-in-Ok.ensures.items
    (IsLine-push (widths_of c.args.inputs.now) c.args.line.now.items c.in-Ok.assignment c.requires.fits c.in-Ok.ensures.assigns
    (apart_from c.args.given.now.items c.args.line.now.items c.in-Ok.assignment.0 c.requires.given new))
