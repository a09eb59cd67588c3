-- What a call of several reads took of the bytes that a source had left, where the source exposes them.
use Rattle.std.specs.Prelude.{◌≡◌, ◌↔◌, ℕ, ◌+◌, ◌<◌, ◌≤◌, List, [], length, ⊤, None, Some}
use Rattle.std.specs.Io.KnownBytes.{Consumes}
use Rattle.std.specs.declared.option.Option.{Option}

-- these are all the bytes that were left, and none is left now
abbrev pub TakesAll : Option (List ℕ) → Option (List ℕ) → List ℕ → Type 0
TakesAll None new bytes = ⊤
TakesAll (Some all) new bytes = (all ≡ bytes) × (new ≡ Some [])

-- some first bytes were taken: up to byte `limit + 1` where there are too many, and otherwise `limit` at most
pub record TakesUpTo (old new : Option (List ℕ)) (limit : ℕ) (are_too_many : Type 0) : Type 0 where
  pub front : List ℕ
  pub taken : Consumes old new front
  pub no_more : length front ≤ limit + 1
  pub exact : are_too_many ↔ (limit < length front)
