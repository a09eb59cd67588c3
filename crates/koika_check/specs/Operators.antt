-- The types of operators between two operands. This project's own rules.
use Rattle.std.specs.Prelude.{ℕ, ◌+◌, nat_le, [], ◌∷◌, Option, Some, None}
use Rattle.kw_base.specs.declared.fault_number.TheConstants.{WRONG_WIDTH}
use Rattle.koika_syntax.specs.declared.operator.BinaryOperator.{BinaryOperator}
use Rattle.koika_syntax.specs.declared.operator.BinaryOperator.TheVariants as binary
use Rattle.koika_check.specs.Outcomes.{CheckResult, holds, where_all, wrong}
use Rattle.koika_check.specs.Types.{TypedPart, agrees, as_bits, bits, each, is_bits, is_value}
use Rattle.koika_check.specs.declared.typed.ValueType.{ValueType}

-- ---- operators between two operands

-- a width, or 0 where there is none
abbrev pub width_or_none : Option ℕ → ℕ
width_or_none None = 0
width_or_none (Some width) = width

-- the width of a part, or 0 where it isn't of bits
abbrev pub bits_in : TypedPart → ℕ
bits_in part = width_or_none (as_bits part.of)

-- `& | ^ + - * << >> >>>`: bits (22) that agree; the same
abbrev pub calculated : TypedPart → TypedPart → CheckResult (Option ValueType)
calculated left right = where_all (each is_bits (left ∷ right ∷ []) ∷ agrees left.of right ∷ []) left.of

-- `< <= > >=`, and those with a sign: bits (22) that agree; bits 1
abbrev pub compared : TypedPart → TypedPart → CheckResult (Option ValueType)
compared left right = where_all (each is_bits (left ∷ right ∷ []) ∷ agrees left.of right ∷ []) (Some (bits 1))

-- `== !=`: not unit (22), agree; bits 1
abbrev pub equated : TypedPart → TypedPart → CheckResult (Option ValueType)
equated left right = where_all (each is_value (left ∷ right ∷ []) ∷ agrees left.of right ∷ []) (Some (bits 1))

-- `++`: bits (22), widths add to at most 128 (23, at the whole); bits
abbrev pub concatenated : TypedPart → TypedPart → CheckResult (Option ValueType)
concatenated left right =
    where_all
    (each is_bits (left ∷ right ∷ []) ∷ holds (nat_le (bits_in left + bits_in right) 128) (wrong WRONG_WIDTH left.place) ∷ [])
    (Some (bits (bits_in left + bits_in right)))

-- the type of an operator's result, or the fault of its operands
abbrev pub operated : BinaryOperator → TypedPart → TypedPart → CheckResult (Option ValueType)
operated binary.Or = calculated
operated binary.Xor = calculated
operated binary.And = calculated
operated binary.Equal = equated
operated binary.NotEqual = equated
operated binary.Less = compared
operated binary.LessOrEqual = compared
operated binary.Greater = compared
operated binary.GreaterOrEqual = compared
operated binary.Concat = concatenated
operated binary.ShiftLeft = calculated
operated binary.ShiftRight = calculated
operated binary.ShiftRightSigned = calculated
operated binary.Add = calculated
operated binary.Subtract = calculated
operated binary.Multiply = calculated
