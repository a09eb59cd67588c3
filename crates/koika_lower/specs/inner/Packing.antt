-- The parts of a value, whose bits are put together one by one. It serves private functions alone.
use Rattle.std.specs.List.{AllByRecursion}
use Rattle.std.specs.Prelude.{List, Option, Some, None, sum_by}
use Rattle.kw_bits.specs.BitVector.{BitVector}
use Rattle.koika_types.specs.Values.{nothing}
use Rattle.koika_types.specs.declared.value.Value.{Value}
use Rattle.typed_core.specs.Valid.{IsWidth}
use Rattle.koika_check.specs.Types.{width_of}
use Rattle.koika_check.specs.Typing.{IsOf, IsType, IsTypedDesign, Pairwise}
use Rattle.koika_check.specs.declared.checked.Checked.{Checked}
use Rattle.koika_check.specs.declared.typed.ValueType.{ValueType}

-- values of valid types of a well typed design, which have 1 to 128 bits together
pub record AreParts (d : Checked) (types : List ValueType) (values : List Value) : Type 0 where
  pub design : IsTypedDesign d
  pub valid : AllByRecursion (IsType d) types
  pub of : Pairwise (IsOf d) values types
  pub fits : IsWidth (sum_by (width_of d) types)

-- the bits so far, none of them at first
abbrev pub so_far : Option BitVector → BitVector
so_far None = nothing
so_far (Some bits) = bits
