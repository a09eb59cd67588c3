use Rattle.std.proofs.Common.{◌≤◌, arith}
use Rattle.std.proofs.lemmas.Result.{err_from_is_err_and}
use Rattle.kw_base.specs.Texts.{lines_of}
use Rattle.journal_check.proofs.Adding.{begun, ends, going_on, has_few, refused_beginning, refused_later}
use Rattle.journal_check.proofs.reader.read_lines.Goals as goal

pub returns-in_err-beginning-clause-fault : goal.returns-in_err-beginning-clause-fault
returns-in_err-beginning-clause-fault c =
    let few : c.args.first_line ≤ 4294967295 = omega (arith, c.ranges.first_line.fits) in
    let p = err_from_is_err_and c.from_residual.result c.from_residual.ensures.1 in
    rw (p.1, p.2) (refused_beginning c.args.reader.now.names.design.now c.args.reader.now.stimulus.now c.args.first_line c.args.bytes.now c.in_err-beginning.field-0.0 few c.in_err-beginning.ensures.fault)

pub loop-line-init : goal.loop-line-init
loop-line-init c =
    let few : c.args.first_line ≤ 4294967295 = omega (arith, c.ranges.first_line.fits) in
    let first = c.in_ok-beginning.beginning in
    begun c.args.reader.now.names.design.now c.args.reader.now.stimulus.now c.args.first_line first.workers c.saturating_add-number.result c.args.bytes.now first.rest.now _ few c.in_ok-beginning.ensures.begins.0 c.in_ok-beginning.ensures.begins.1 c.saturating_add-number.ensures c.new.ensures

pub add_line-requires-clause-few : goal.add_line-requires-clause-few
add_line-requires-clause-few c = has_few c.args.reader.now.names.design.now c.args.reader.now.stimulus.now c.args.first_line c.loop-line.number c.args.bytes.now c.loop-line.rest.now c.loop-line.journal c.loop-line.invariant

pub returns-in_err-add_line-clause-fault : goal.returns-in_err-add_line-clause-fault
returns-in_err-add_line-clause-fault c =
    let p = err_from_is_err_and c.from_residual-in_err-add_line.result c.from_residual-in_err-add_line.ensures.1 in
    rw (p.1, p.2)
    (refused_later c.args.reader.now.names.design.now c.args.reader.now.stimulus.now c.args.first_line c.loop-line.number c.args.bytes.now c.loop-line.rest.now c.in-Some.line.bytes.now (lines_of c.in-Some.line.rest.now) c.loop-line.journal c.in_err-add_line.field-0.0 c.loop-line.invariant c.in-Some.ensures.found c.in_err-add_line.ensures.fault)

pub loop-line-preserved : goal.loop-line-preserved
loop-line-preserved c =
    let few : c.args.first_line ≤ 4294967295 = omega (arith, c.ranges.first_line.fits) in
    going_on c.args.reader.now.names.design.now c.args.reader.now.stimulus.now c.args.first_line c.loop-line.number c.saturating_add-number-in-Some.result c.args.bytes.now c.loop-line.rest.now c.in-Some.line.bytes.now c.in-Some.line.rest.now c.loop-line.journal c.add_line.new.journal few c.loop-line.invariant c.in-Some.ensures.found
    c.in_ok-add_line.ensures.adds c.saturating_add-number-in-Some.ensures

pub returns-clause-journal : goal.returns-clause-journal
returns-clause-journal c = ends c.args.reader.now.names.design.now c.args.reader.now.stimulus.now c.args.first_line c.loop-line.number c.args.bytes.now c.loop-line.rest.now c.loop-line.journal c.loop-line.invariant c.in_default.ensures.absent
