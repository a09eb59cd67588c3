use Rattle.std.proofs.Common.{◌≡◌, ℕ, ◌<◌, Some}
use Rattle.std.specs.Prelude.{slice_get}
use Rattle.typed_core.specs.declared.access.Event.{Event}
use Rattle.attempt_log.specs.Sources.{IsSource}
use Rattle.attempt_log.proofs.sources.has_source.Given as goal

-- the source of each event so far is 0
abbrev pub invariant-loop-number : goal.invariant-loop-number
invariant-loop-number l = (number : ℕ) (e : Event) → number < l.number → slice_get l.events number ≡ Some e → IsSource l.events number e.access.port e.access.register 0
