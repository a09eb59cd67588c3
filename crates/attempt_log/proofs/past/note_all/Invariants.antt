use Rattle.std.proofs.Common.{◌≡◌, drop, length}
use Rattle.attempt_log.specs.inner.Firsts.{noted_all}
use Rattle.attempt_log.proofs.past.note_all.Given as goal

-- what is left to note makes of the table what all makes of the first one
abbrev pub invariant-loop-event : goal.invariant-loop-event
invariant-loop-event l =
    record {
      same : noted_all l.commit l.firsts (drop l.event-index l.events) ≡ noted_all l.commit l.fn.firsts l.events;
      length : length l.firsts ≡ length l.fn.firsts;
    }
