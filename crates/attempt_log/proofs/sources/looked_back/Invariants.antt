use Rattle.std.proofs.Common.{◌≡◌, ℕ, ◌<◌, length, Some}
use Rattle.std.specs.Prelude.{slice_get, slice_index_or, vec_capacity}
use Rattle.typed_core.specs.declared.access.Event.{Event}
use Rattle.attempt_log.specs.Sources.{IsSource}
use Rattle.attempt_log.proofs.sources.looked_back.Given as goal

-- each event so far has its own source
abbrev pub invariant-loop-number : goal.invariant-loop-number
invariant-loop-number l =
    record {
      count : length l.sources.items ≡ l.number;
      each : (number : ℕ) (e : Event) → number < l.number → slice_get l.events number ≡ Some e → IsSource l.events number e.access.port e.access.register (slice_index_or l.sources.items number 0);
      room : vec_capacity l.sources ≡ length l.events;
    }
