use Rattle.std.proofs.Common.{◌≡◌, ℕ, ◌+◌, ◌*◌, ◌<◌, length, Some}
use Rattle.std.specs.Prelude.{slice_get, slice_index_or, vec_capacity}
use Rattle.typed_core.specs.Valid.{IsPort}
use Rattle.typed_core.specs.declared.access.Event.{Event}
use Rattle.attempt_log.specs.Sources.{IsSource}
use Rattle.attempt_log.specs.declared.sources.TheConstants.{PLACES}
use Rattle.attempt_log.proofs.sources.in_table.Given as goal

-- each place has the source of a read there now, and each event so far has its own
abbrev pub invariant-loop-number : goal.invariant-loop-number
invariant-loop-number l =
    record {
      latest : (port register : ℕ) → IsPort port → register < length l.design.regs → IsSource l.list l.number port register (slice_index_or l.latest.items (PLACES * register + port) 0);
      places : length l.latest.items ≡ PLACES * length l.design.regs;
      count : length l.sources.items ≡ l.number;
      each : (number : ℕ) (e : Event) → number < l.number → slice_get l.list number ≡ Some e → IsSource l.list number e.access.port e.access.register (slice_index_or l.sources.items number 0);
      room : vec_capacity l.sources ≡ length l.list;
    }
