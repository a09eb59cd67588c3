-- The parts of a type, and a number as a value of its type.
use Rattle.std.proofs.Common.{◌≡◌, ℕ, List, Some, arith, ap, sym, subst, ◌∙◌}
use Rattle.kw_bits.specs.BitVector.{BitVector, IsBits}
use Rattle.kw_bits.specs.Laws.{HasWidth}
use Rattle.koika_types.specs.declared.value.Value.TheVariants as value
use Rattle.koika_types.specs.declared.value.Value.TheOpen.{Value-F}
use Rattle.koika_types.proofs.Layers.{packed-Number}
use Rattle.koika_check.specs.Types.{bits}
use Rattle.koika_check.specs.declared.checked.Checked.{Checked}
use Rattle.koika_check.specs.declared.typed.BaseType.{BaseType}
use Rattle.koika_check.specs.declared.typed.ValueType.{ValueType}
use Rattle.koika_check.proofs.TypingLayers.{close-IsOf}
use Rattle.koika_lower.specs.inner.Simulation.{Stands}

-- the base and the lengths of a type
unfoldable pub base_of : ValueType → BaseType
base_of t = t.base

unfoldable pub lengths_of : ValueType → List ℕ
lengths_of t = t.lengths

module _ (d : Checked) where
  -- a number stands for itself
  pub number-stands : (width : ℕ) (x y : BitVector) → y ≡ x → HasWidth x width → Stands d (Some (bits width)) (Some (value.Number y)) x
  number-stands width x y e h = (
    close-IsOf d (value.Number y) (Value-F.Number y) (value.rolls-Number y) (bits width) (ap bits (sym h.1) ∙ ap (λ (b : BitVector). bits b.width) (sym e), subst IsBits (sym e) h.0),
    packed-Number y ∙ e,
    (h.0, h.1 ∙ omega arith),
  )
