use Rattle.std.proofs.Common.{◌<◌, None, Some, length, ap, ◌∙◌, arith}
use Rattle.std.proofs.lemmas.List.{append-nil}
use Rattle.kw_base.specs.Texts.{pieces_after}
use Rattle.kw_base.specs.declared.texts.Separator.TheVariants as at
use Rattle.btor2_text.specs.Cut.{lines_of}
use Rattle.btor2_text.proofs.Readings.{ReadTo-next, ReadTo-refused, ReadTo-end, is_first_fault, no_lines, same_fault, same_readings, lines_or_fault}
use Rattle.btor2_text.proofs.ReadLines.{ArePrintable-AreLinesOf}
use Rattle.btor2_text.proofs.reader.read_lines.Goals as goal

pub returns-in-Err-clause-fault : goal.returns-in-Err-clause-fault
returns-in-Err-clause-fault c =
    let splits = ap (pieces_after at.LineFeed) c.in-Some.is ∙ c.cut.ensures.pieces in
    is_first_fault c.args.text.now c.refusal.result (ReadTo-refused c.args.text.now c.loop-rest.lines c.loop-rest.number _ c.loop-rest.invariant _ _ splits _ c.saturating_add-number.ensures c.in-Err.flaw c.in-Err.ensures c.refusal.result c.refusal.ensures)

pub returns-in-Err-clause-accepted : goal.returns-in-Err-clause-accepted
returns-in-Err-clause-accepted c =
    let splits = ap (pieces_after at.LineFeed) c.in-Some.is ∙ c.cut.ensures.pieces in
    no_lines c.args.text.now c.refusal.result (ReadTo-refused c.args.text.now c.loop-rest.lines c.loop-rest.number _ c.loop-rest.invariant _ _ splits _ c.saturating_add-number.ensures c.in-Err.flaw c.in-Err.ensures c.refusal.result c.refusal.ensures)

pub returns-in-Err-clause-refused : goal.returns-in-Err-clause-refused
returns-in-Err-clause-refused c =
    let splits = ap (pieces_after at.LineFeed) c.in-Some.is ∙ c.cut.ensures.pieces in
    same_fault c.args.text.now c.refusal.result (ReadTo-refused c.args.text.now c.loop-rest.lines c.loop-rest.number _ c.loop-rest.invariant _ _ splits _ c.saturating_add-number.ensures c.in-Err.flaw c.in-Err.ensures c.refusal.result c.refusal.ensures)

pub loop-rest-preserved : goal.loop-rest-preserved
loop-rest-preserved c =
    let splits = ap (pieces_after at.LineFeed) c.in-Some.is ∙ c.cut.ensures.pieces in
    let next = ReadTo-next _ c.loop-rest.lines c.loop-rest.number _ c.loop-rest.invariant _ _ splits _ c.saturating_add-number.ensures None (rw c.in-Ok-None.field-0-is at c.in-Ok-None.ensures) in
    rw append-nil at next

pub loop-rest-smaller : goal.loop-rest-smaller
loop-rest-smaller c =
    let splits = ap (pieces_after at.LineFeed) c.in-Some.is ∙ c.cut.ensures.pieces in
    let less : length (pieces_after at.LineFeed c.cut.result.1) < length (pieces_after at.LineFeed c.loop-rest.rest) = omega (arith, ap length splits) in less

pub loop-rest-preserved-in_ok-push-in-Ok-Some : goal.loop-rest-preserved-in_ok-push-in-Ok-Some
loop-rest-preserved-in_ok-push-in-Ok-Some c =
    let splits = ap (pieces_after at.LineFeed) c.in-Some.is ∙ c.cut.ensures.pieces in
    rw c.in_ok-push-in-Ok-Some.ensures.ok
    (ReadTo-next _ c.loop-rest.lines c.loop-rest.number _ c.loop-rest.invariant _ _ splits _ c.saturating_add-number.ensures (Some c.in-Ok-Some.line) (rw c.in-Ok-Some.field-0-is at c.in-Ok-Some.ensures))

pub loop-rest-smaller-in_ok-push-in-Ok-Some : goal.loop-rest-smaller-in_ok-push-in-Ok-Some
loop-rest-smaller-in_ok-push-in-Ok-Some c =
    let splits = ap (pieces_after at.LineFeed) c.in-Some.is ∙ c.cut.ensures.pieces in
    let less : length (pieces_after at.LineFeed c.cut.result.1) < length (pieces_after at.LineFeed c.loop-rest.rest) = omega (arith, ap length splits) in less

pub returns-clause-lines : goal.returns-clause-lines
returns-clause-lines c = ReadTo-end _ _ _ _ c.loop-rest.invariant (ap (pieces_after at.LineFeed) c.in_default.is)

pub returns-clause-accepted : goal.returns-clause-accepted
returns-clause-accepted c = λ lines are.
    same_readings 1 (lines_of c.args.text.now) c.loop-rest.lines lines (ReadTo-end _ _ _ _ c.loop-rest.invariant (ap (pieces_after at.LineFeed) c.in_default.is)) are

pub returns-clause-refused : goal.returns-clause-refused
returns-clause-refused c = λ fault first.
    absurd (lines_or_fault 1 (lines_of c.args.text.now) c.loop-rest.lines fault (ReadTo-end _ _ _ _ c.loop-rest.invariant (ap (pieces_after at.LineFeed) c.in_default.is)) first)

pub returns-clause-printable : goal.returns-clause-printable
returns-clause-printable c =
    ArePrintable-AreLinesOf c.args.text.now c.loop-rest.lines (ReadTo-end _ _ _ _ c.loop-rest.invariant (ap (pieces_after at.LineFeed) c.in_default.is))
