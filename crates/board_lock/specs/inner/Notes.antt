-- What workers note of a history: each its own entries, in order, with their places.
use Rattle.std.specs.Prelude.{◌≡◌, ℕ, ◌+◌, ◌<◌, ◌==◌, Bool, false, cond, List, [], ◌∷◌, length, slice_index_or, slice_get, Option, Some, None}
use Rattle.attempt_log.specs.Entries.{worker_of}
use Rattle.attempt_log.specs.declared.entry.Entry.{Entry}
use Rattle.board_lock.specs.declared.notes.Note.{Note}

-- the notes of a worker's entries in a part of a history that begins at a place
abbrev pub noted : ℕ → ℕ → List Entry → List Note
noted n place [] = []
noted n place (e ∷ es) = cond (worker_of e == n) (record { place = place; entry = e } ∷ noted n (place + 1) es) (noted n (place + 1) es)

-- the list begins with a note of this place
abbrev pub heads : ℕ → List Note → Bool
heads place [] = false
heads place (n ∷ ns) = n.place == place

-- the workers that these lists are of made all entries of this part of a history, and noted them
pub record AreNotes (place : ℕ) (h : List Entry) (lists : List (List Note)) : Type 0 where
  pub each : (i : ℕ) → i < length lists → slice_index_or lists i [] ≡ noted i place h
  pub below : (i : ℕ) (e : Entry) → slice_get h i ≡ Some e → worker_of e < length lists

-- there is no entry of this place, or it was taken and the lists are those of the rest
abbrev pub IsNext : ℕ → List Entry → Option Entry → List (List Note) → Type 0
IsNext place h None lists = h ≡ []
IsNext place h (Some e) lists = (rest : List Entry) × (h ≡ e ∷ rest) × AreNotes (place + 1) rest lists
