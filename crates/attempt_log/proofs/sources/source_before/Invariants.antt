use Rattle.attempt_log.specs.Sources.{IsSource}
use Rattle.attempt_log.proofs.sources.source_before.Given as goal

-- the source after the events so far
abbrev pub invariant-loop-number : goal.invariant-loop-number
invariant-loop-number l = IsSource l.events l.number l.access.port l.access.register l.source
