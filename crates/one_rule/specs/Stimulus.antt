-- The stimulus of a run: which values the inputs have in each cycle. The first line of assignments is for cycle 1, and
-- an input that isn't assigned is 0. It says nothing of texts.
use Rattle.std.specs.Prelude.{◌≡◌, ◌≢◌, ℕ, zero, suc, List, [], map, All, AllPairs, Some, slice_get, slice_index_or, nat_eq, unwrap_or}
use Rattle.std.specs.List.{enumerate_from}
use Rattle.std.specs.Map.{keys_of, lookup}
use Rattle.kw_bits.specs.BitVector.{BitVector, zero_at}
use Rattle.kw_bits.specs.Laws.{HasWidth}
use Rattle.typed_core.specs.Widths.{HaveWidths, input_widths}
use Rattle.typed_core.specs.declared.design.Parts.{Parts}
use Rattle.one_rule.specs.Run.{InputsByCycle}

-- an input's number, and the value that it is given
abbrev pub Assignment : Type 0
Assignment = ℕ × BitVector

-- the assignment is to an input that there is, and of a value of its width
abbrev pub Assigns : List ℕ → Assignment → Type 0
Assigns widths a = (width : ℕ) × (slice_get widths a.0 ≡ Some width) × HasWidth a.1 width

-- a line assigns values to inputs, at most one to each
pub record IsLine (widths : List ℕ) (line : List Assignment) : Type 0 where
  pub values : All (Assigns widths) line
  pub once : AllPairs (λ x y. x ≢ y) (keys_of line)

-- the value of an input of this width by a line: the one that it is assigned, or else 0
abbrev pub value_by : List Assignment → ℕ → ℕ → BitVector
value_by line input width = unwrap_or (lookup (nat_eq input) line) (zero_at width)

-- the values of all inputs by a line
unfoldable pub inputs_by : List ℕ → List Assignment → List BitVector
inputs_by widths line = map (λ (input : ℕ × ℕ). value_by line input.0 input.1) (enumerate_from 0 widths)

-- a stimulus: the widths of the inputs, and their values in cycle 1 and so on, as far as there are lines
pub record InputVectors : Type 0 where
  pub widths : List ℕ
  pub cycles : List (List BitVector)

-- the values of the inputs in each cycle; in cycle 0 and past the last line they are those by an empty line
unfoldable pub inputs_of : InputVectors → InputsByCycle
inputs_of s zero = inputs_by s.widths []
inputs_of s (suc before) = slice_index_or s.cycles before (inputs_by s.widths [])

-- a stimulus has one value of its width for each input in every cycle
abbrev pub AlwaysFits : InputVectors → Type 0
AlwaysFits s = (cycle : ℕ) → HaveWidths s.widths (inputs_of s cycle)

-- the stimulus is one for the inputs of a design
abbrev pub StimulusFits : Parts → InputVectors → Type 0
StimulusFits design s = s.widths ≡ input_widths design

-- the stimuli have inputs of the same widths, and give them the same values in every cycle
pub record AreSame (a b : InputVectors) : Type 0 where
  pub widths : a.widths ≡ b.widths
  pub inputs : (cycle : ℕ) → inputs_of a cycle ≡ inputs_of b cycle
