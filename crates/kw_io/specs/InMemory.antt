-- Sources and sinks in memory, as their callers see them. They fail at calls that are listed by their numbers.
use Rattle.std.specs.Prelude.{ℕ, ◌-◌, List, length, Contains}
use Rattle.kw_bits.specs.Faults.{one_more}

-- how many calls were made and how many of them failed, and the numbers of those that are to fail: the first is 1
pub record Calls : Type 0 where
  pub made : ℕ
  pub failed : ℕ
  pub failing : List ℕ

-- the next call is listed
abbrev pub IsNextListed : Calls → Type 0
IsNextListed calls = Contains calls.failing (one_more calls.made)

-- after a call that didn't fail
abbrev pub after_success : Calls → Calls
after_success calls = record calls { made = one_more calls.made }

-- a source in memory: the bytes that are left, and the most that a read gives of them
pub record SourceInMemory : Type 0 where
  pub left : List ℕ
  pub piece : ℕ
  pub calls : Calls

-- a sink in memory: the bytes written, how many there may be, and the most that a write takes
pub record SinkInMemory : Type 0 where
  pub written : List ℕ
  pub room : ℕ
  pub piece : ℕ
  pub calls : Calls

-- how many bytes can still be written
abbrev pub room_left : SinkInMemory → ℕ
room_left sink = sink.room - length sink.written
