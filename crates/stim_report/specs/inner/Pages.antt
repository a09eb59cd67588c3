-- What the calls say that write to a text with room: how much it gains, and that there is room for it.
use Rattle.std.specs.Prelude.{◌≡◌, ℕ, ◌+◌, ◌≤◌, List, ◌++◌, length}
use Rattle.kw_bits.specs.Reserved.{ReservedList}

-- there is room for these bytes
pub record HasRoom (page : ReservedList ℕ) (bytes : List ℕ) : Type 0 where
  pub room : length page.items + length bytes ≤ page.capacity

-- these bytes were added
pub record Gains (old new : ReservedList ℕ) (bytes : List ℕ) : Type 0 where
  pub items : new.items ≡ old.items ++ bytes
  pub capacity : new.capacity ≡ old.capacity

-- of what was to be added to the old text this is left
pub record Leaves (old : ReservedList ℕ) (whole : List ℕ) (now : ReservedList ℕ) (rest : List ℕ) : Type 0 where
  pub items : now.items ++ rest ≡ old.items ++ whole
  pub capacity : now.capacity ≡ old.capacity
