-- How a reader keeps the names of inputs: each once, with the number of the first input that has it.
use Rattle.std.specs.Prelude.{◌≡◌, ℕ, List, length, option_map, slice_index}
use Rattle.kw_base.specs.Names.{AreNumbered, number_of}
use Rattle.stim_report.specs.Assignments.{input_by_name}
use Rattle.stim_report.specs.declared.shape.NameWidth.{NameWidth}

pub record AreFirst (names : List (List ℕ)) (firsts : List ℕ) (inputs : List NameWidth) : Type 0 where
  pub numbered : AreNumbered names
  pub count : length firsts ≡ length names
  pub first : (name : List ℕ) → input_by_name inputs name ≡ option_map (slice_index firsts) (number_of names name)
