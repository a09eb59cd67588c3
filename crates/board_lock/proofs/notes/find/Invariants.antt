use Rattle.std.proofs.Common.{◌≡◌, ℕ, ◌<◌, false, []}
use Rattle.std.specs.Prelude.{slice_index_or}
use Rattle.board_lock.specs.inner.Notes.{heads}
use Rattle.board_lock.proofs.notes.find.Given as goal

abbrev pub invariant-loop-number : goal.invariant-loop-number
invariant-loop-number l = (i : ℕ) → i < l.number → heads l.place (slice_index_or l.lists i []) ≡ false
