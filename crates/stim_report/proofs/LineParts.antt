-- The parts of a line in turn: `@`, a number, a space, names, values and a line feed.
use Rattle.std.proofs.Common.{ℕ, List, [], ◌∷◌, ◌++◌}
use Rattle.kw_bits.specs.Reserved.{ReservedList}
use Rattle.stim_report.specs.inner.Pages.{Gains, HasRoom}
use Rattle.stim_report.proofs.Pages.{room_byte, room_first, room_behind_byte, room_next, byte_first, in_turn}

abbrev Room : ReservedList ℕ → List ℕ → List ℕ → List ℕ → Type 0
Room page number names values = HasRoom page ((((64 ∷ number) ++ (32 ∷ names)) ++ values) ++ (10 ∷ []))

first : {page : ReservedList ℕ} (number names values : List ℕ) → Room page number names values → HasRoom page (64 ∷ number)
first number names values h =
    room_first {xs = 64 ∷ number} (32 ∷ names) (room_first {xs = (64 ∷ number) ++ (32 ∷ names)} values (room_first {xs = ((64 ∷ number) ++ (32 ∷ names)) ++ values} (10 ∷ []) h))

second : {page : ReservedList ℕ} (number names values : List ℕ) → Room page number names values → HasRoom page ((64 ∷ number) ++ (32 ∷ names))
second number names values h = room_first {xs = (64 ∷ number) ++ (32 ∷ names)} values (room_first {xs = ((64 ∷ number) ++ (32 ∷ names)) ++ values} (10 ∷ []) h)

pub room_at : {page : ReservedList ℕ} (number names values : List ℕ) → Room page number names values → HasRoom page (64 ∷ [])
room_at number names values h = room_byte number (first number names values h)

pub room_number : {page one : ReservedList ℕ} (number names values : List ℕ) → Room page number names values → Gains page one (64 ∷ []) → HasRoom one number
room_number number names values h g1 = room_behind_byte g1 (first number names values h)

pub room_space : {page one two : ReservedList ℕ} (number names values : List ℕ) → Room page number names values → Gains page one (64 ∷ []) → Gains one two number → HasRoom two (32 ∷ [])
room_space {page} {one} {two} number names values h g1 g2 = room_byte names (room_next two (64 ∷ number) (byte_first g1 g2) (second number names values h))

pub room_fired : {page one two three : ReservedList ℕ} (number names values : List ℕ) → Room page number names values → Gains page one (64 ∷ []) → Gains one two number → Gains two three (32 ∷ []) → HasRoom three names
room_fired {page} {one} {two} {three} number names values h g1 g2 g3 = room_behind_byte g3 (room_next two (64 ∷ number) (byte_first g1 g2) (second number names values h))

front : {page one two three four : ReservedList ℕ} (number names : List ℕ) → Gains page one (64 ∷ []) → Gains one two number → Gains two three (32 ∷ []) → Gains three four names
    → Gains page four ((64 ∷ number) ++ (32 ∷ names))
front number names g1 g2 g3 g4 = in_turn {xs = 64 ∷ number} {ys = 32 ∷ names} (byte_first g1 g2) (byte_first g3 g4)

pub room_values : {page one two three four : ReservedList ℕ} (number names values : List ℕ) → Room page number names values → Gains page one (64 ∷ []) → Gains one two number → Gains two three (32 ∷ [])
    → Gains three four names → HasRoom four values
room_values {page} {one} {two} {three} {four} number names values h g1 g2 g3 g4 =
    room_next four ((64 ∷ number) ++ (32 ∷ names)) (front number names g1 g2 g3 g4) (room_first {xs = ((64 ∷ number) ++ (32 ∷ names)) ++ values} (10 ∷ []) h)

pub room_end : {page one two three four five : ReservedList ℕ} (number names values : List ℕ) → Room page number names values → Gains page one (64 ∷ []) → Gains one two number → Gains two three (32 ∷ [])
    → Gains three four names → Gains four five values → HasRoom five (10 ∷ [])
room_end {page} {one} {two} {three} {four} {five} number names values h g1 g2 g3 g4 g5 =
    room_next five (((64 ∷ number) ++ (32 ∷ names)) ++ values) (in_turn (front number names g1 g2 g3 g4) g5) h

pub whole_line : {page one two three four five new : ReservedList ℕ} (number names values : List ℕ) → Gains page one (64 ∷ []) → Gains one two number → Gains two three (32 ∷ [])
    → Gains three four names → Gains four five values → Gains five new (10 ∷ []) → Gains page new ((((64 ∷ number) ++ (32 ∷ names)) ++ values) ++ (10 ∷ []))
whole_line number names values g1 g2 g3 g4 g5 g6 = in_turn (in_turn (front number names g1 g2 g3 g4) g5) g6
