use Rattle.std.proofs.Common.{◌<◌, length, ap, arith}
use Rattle.std.proofs.lemmas.Result.{err_from_is_err_and}
use Rattle.journal_check.specs.Checking.{IsFirstWrong}
use Rattle.journal_check.specs.inner.Replaying.{IsFaultAt}
use Rattle.journal_check.proofs.Replays.{next_so_far, next_wrong}
use Rattle.journal_check.proofs.RunsOfBatches.{fault_onto}
use Rattle.journal_check.proofs.replay.make_entries.Goals as goal

pub returns-in_err-make_entry-clause-fault : goal.returns-in_err-make_entry-clause-fault
returns-in_err-make_entry-clause-fault c =
    let l = c.loop-number in
    let batch = c.args.batch.now in
    let p = err_from_is_err_and c.from_residual.result c.from_residual.ensures.1 in
    let lined : l.number < length batch.lines = omega (arith, c.loop-number-test.true, c.requires.fits.lines, ap length l.invariant.items) in
    rw (p.1, p.2)
    (fault_onto (IsFaultAt l.core c.entry-item.result c.index.result.now) (IsFirstWrong c.args.core.now.opening batch) c.in_err-make_entry.field-0.0
    (λ fault wrong. next_wrong l.invariant.so_far c.entry-item.result c.loop-number-test.true c.entry-item.is batch c.index.result.now fault l.invariant.items c.index.ensures lined wrong)
    c.in_err-make_entry.ensures.fault)

pub loop-number-preserved : goal.loop-number-preserved
loop-number-preserved c =
    let l = c.loop-number in
    record {
      items = l.invariant.items;
      so_far = next_so_far l.invariant.so_far c.entry-item.result c.loop-number-test.true c.entry-item.is c.make_entry.new.core c.in_ok-make_entry.ensures.ok;
    }
