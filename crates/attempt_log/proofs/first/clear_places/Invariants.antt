use Rattle.std.proofs.Common.{◌≡◌, ◌⊎◌, ℕ, length, take, None, false}
use Rattle.std.specs.Prelude.{slice_index_or}
use Rattle.attempt_log.specs.inner.Firsts.{is_listed}
use Rattle.attempt_log.proofs.first.clear_places.Given as goal

abbrev pub invariant-loop-number : goal.invariant-loop-number
invariant-loop-number l =
    record {
      length : length l.commits.items ≡ length l.fn.commits.items;
      each : (number : ℕ) → (slice_index_or l.commits.items number None ≡ None)
          ⊎ ((slice_index_or l.commits.items number None ≡ slice_index_or l.fn.commits.items number None) × (is_listed (take l.number-index l.places) number ≡ false));
    }
