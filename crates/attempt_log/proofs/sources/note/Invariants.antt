use Rattle.std.proofs.Common.{◌≡◌, ℕ, ◌+◌, ◌*◌, length}
use Rattle.std.specs.Prelude.{◌&&◌, nat_lt, slice_index_or, if◌then◌else◌}
use Rattle.typed_core.specs.Alone.{is_write_below}
use Rattle.typed_core.specs.Valid.{IsPort}
use Rattle.attempt_log.specs.declared.sources.TheConstants.{PLACES}
use Rattle.attempt_log.proofs.sources.note.Given as goal

-- the ports so far have the new source
abbrev pub invariant-loop-port : goal.invariant-loop-port
invariant-loop-port l =
    record {
      count : length l.latest.items ≡ length l.fn.latest.items;
      each : (port register : ℕ) → IsPort port → let place = PLACES * register + port in
          slice_index_or l.latest.items place 0 ≡ (if is_write_below port register l.access && nat_lt port l.port then l.source else slice_index_or l.fn.latest.items place 0);
    }
