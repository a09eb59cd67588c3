use Rattle.std.proofs.Common.{sym, arith}
use Rattle.journal_check.specs.Fitting.{IsSmall, LineFits}
use Rattle.journal_check.specs.inner.Tokens.{tokens_of}
use Rattle.journal_check.proofs.LinesRead.{fails, not_allowed, not_printed, refused, unread_refused}
use Rattle.journal_check.proofs.Sound.{line_fits}
use Rattle.journal_check.proofs.reader.read_line.Goals as goal

pub returns-in-Err-clause-fault : goal.returns-in-Err-clause-fault
returns-in-Err-clause-fault c =
    let small : IsSmall c.args.workers = omega (arith, c.ranges.workers.fits) in
    unread_refused c.args.reader.now.names.design.now c.args.reader.now.stimulus.now c.args.workers c.args.bytes.now c.args.number c.in-Err.flaw c.refusal.result small c.refusal.ensures c.in-Err.ensures

pub returns-then-not-is_allowed-clause-fault : goal.returns-then-not-is_allowed-clause-fault
returns-then-not-is_allowed-clause-fault c =
    let small : IsSmall c.args.workers = omega (arith, c.ranges.workers.fits) in
    refused c.args.reader.now.names.design.now (LineFits c.args.reader.now.names.design.now c.args.reader.now.stimulus.now c.args.workers) c.args.bytes.now c.args.number c.refusal-then-not-is_allowed.result c.refusal-then-not-is_allowed.ensures
    (not_allowed c.args.reader.now.names.design.now c.args.reader.now.stimulus.now c.args.workers c.args.bytes.now c.in-Ok.line small c.in-Ok.ensures (fails c.is_allowed.result c.is_allowed.ensures c.if-not-is_allowed.true))

pub returns-then-not-printed-clause-fault : goal.returns-then-not-printed-clause-fault
returns-then-not-printed-clause-fault c =
    let small : IsSmall c.args.workers = omega (arith, c.ranges.workers.fits) in
    refused c.args.reader.now.names.design.now (LineFits c.args.reader.now.names.design.now c.args.reader.now.stimulus.now c.args.workers) c.args.bytes.now c.args.number c.refusal-then-not-printed.result c.refusal-then-not-printed.ensures
    (not_printed c.args.reader.now.names.design.now c.args.reader.now.stimulus.now c.args.workers c.args.bytes.now c.in-Ok.line small c.in-Ok.ensures (fails c.in_ok-printed.printed c.in_ok-printed.ensures c.if-not-printed.true))

pub returns-clause-line : goal.returns-clause-line
returns-clause-line c = (
  line_fits c.args.reader.now.names.design.now c.args.reader.now.stimulus.now c.args.workers c.recall.ensures (tokens_of c.args.bytes.now) c.in-Ok.line c.in-Ok.ensures (c.is_allowed.ensures.0 c.if-not-is_allowed.false),
  sym (c.in_ok-printed.ensures.0 c.if-not-printed.false),
)
