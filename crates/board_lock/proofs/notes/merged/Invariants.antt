use Rattle.std.proofs.Common.{◌≡◌, List, ◌++◌, length}
use Rattle.attempt_log.specs.declared.entry.Entry.{Entry}
use Rattle.board_lock.specs.inner.Notes.{AreNotes}
use Rattle.board_lock.proofs.notes.merged.Given as goal

abbrev pub invariant-loop-place : goal.invariant-loop-place
invariant-loop-place l =
    record {
      count : length l.entries.items ≡ l.place;
      rest : (h : List Entry) → AreNotes 0 h l.fn.lists.items → (more : List Entry) × (h ≡ l.entries.items ++ more) × AreNotes l.place more l.lists.items;
    }
