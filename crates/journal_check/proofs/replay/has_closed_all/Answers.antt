use Rattle.std.proofs.Common.{length, ap}
use Rattle.journal_check.proofs.Replays.{count_tells}
use Rattle.journal_check.proofs.replay.has_closed_all.Goals as goal

pub returns : goal.returns
returns c =
    count_tells c.args.core.now c.rows-rows.ensures.plain (length c.rows-rows.result.now) c.last.result c.first.result (ap length c.rows-rows.ensures.rows) c.last.ensures c.first.ensures
