-- How a reader keeps the names of bits: each once, with the number of the first bit that has it. Only contracts of
-- private functions cite it.
use Rattle.std.specs.Prelude.{◌≡◌, ℕ, List, length, option_map, slice_index}
use Rattle.kw_base.specs.Names as names
use Rattle.kw_base.specs.Names.{AreNumbered}
use Rattle.invariant_check.specs.Invariants.{number_of}

pub record AreFirst (seen : List (List ℕ)) (numbers : List ℕ) (bits : List (List ℕ)) : Type 0 where
  pub numbered : AreNumbered seen
  pub count : length numbers ≡ length seen
  pub first : (name : List ℕ) → number_of bits name ≡ option_map (slice_index numbers) (names.number_of seen name)
