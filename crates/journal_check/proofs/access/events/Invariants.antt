use Rattle.std.proofs.Common.{◌≡◌}
use Rattle.journal_check.specs.inner.Tokens.{events_at, tokens_left}
use Rattle.journal_check.proofs.EventsRead.{after_events, bytes_left}
use Rattle.journal_check.proofs.access.events.Given as goal

-- the events so far, and those that are left
abbrev pub invariant-loop-rest : goal.invariant-loop-rest
invariant-loop-rest l = after_events l.events (events_at l.names.design.now (tokens_left l.rest)) ≡ events_at l.names.design.now (tokens_left l.fn.rest)

abbrev pub decreases-loop-rest : goal.decreases-loop-rest
decreases-loop-rest l = bytes_left l.rest
