-- Counts of faults. A count is a number that a failure raises and nothing lowers. It is kept in a machine
-- word of 64 bits, so at the last value of such a word it can't rise any more and stays.
use Rattle.std.specs.Prelude.{◌≡◌, ℕ, ◌+◌, ◌-◌, ◌^◌, ◌<◌, ◌⊎◌, min}

-- the last value of a count
abbrev pub last_count : ℕ
last_count = 2 ^ 64 - 1

-- a count rose in a call: it is greater at the call's end than at its start, or is at its last value
abbrev pub Rose : ℕ → ℕ → Type 0
Rose old new = (old < new) ⊎ (new ≡ last_count)

-- one more, or the last value
abbrev pub one_more : ℕ → ℕ
one_more count = min (count + 1) last_count
