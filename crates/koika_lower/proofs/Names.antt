-- Names and where they are bound, under one more let.
use Rattle.std.proofs.Common.{◌≡◌, ℕ, zero, suc, ◌+◌, ◌<◌, List, [], ◌∷◌, Some, slice_get, slice_index_or, arith, refl, ap, sym, subst, ◌∙◌}
use Rattle.kw_bits.specs.BitVector.{BitVector}
use Rattle.koika_types.specs.declared.value.Value.{Value}
use Rattle.typed_core.specs.Evaluation.{unit}
use Rattle.koika_check.specs.Types.{width_of}
use Rattle.koika_check.specs.Typing.{IsType}
use Rattle.koika_check.specs.declared.checked.Checked.{Checked}
use Rattle.koika_check.specs.declared.typed.ValueType.{ValueType}
use Rattle.koika_lower.specs.inner.Simulation.{AreNames, NamesFit, NamesStand, Stands, place_of}
use Rattle.koika_lower.specs.declared.lowered.Bound.{Bound}

further : (depth : ℕ) (b : Bound) → b.level < depth → place_of (depth + 1) b ≡ suc (place_of depth b)
further depth b h = omega arith

pub names-deeper : (d : Checked) (depth : ℕ) (names : List Bound) (types : List ValueType) → AreNames d depth names types → AreNames d (depth + 1) names types
names-deeper d depth [] [] h = tt
names-deeper d depth [] (t ∷ types) h = absurd h
names-deeper d depth (b ∷ names) [] h = absurd h
names-deeper d depth (b ∷ names) (t ∷ types) h = ((let low = h.0.0 in omega arith, h.0.1, h.0.2), names-deeper d depth names types h.1)

pub fit-deeper : (d : Checked) (depth : ℕ) (names : List Bound) (types : List ValueType) (widths : List ℕ) (width : ℕ) → AreNames d depth names types → NamesFit depth names widths →
    NamesFit (depth + 1) names (width ∷ widths)
fit-deeper d depth [] types widths width are h = tt
fit-deeper d depth (b ∷ names) [] widths width are h = absurd are
fit-deeper d depth (b ∷ names) (t ∷ types) widths width are h = (
  subst (λ i. slice_get (width ∷ widths) i ≡ Some b.width) (sym (further depth b are.0.0)) h.0,
  fit-deeper d depth names types widths width are.1 h.1,
)

pub stand-deeper : (d : Checked) (depth : ℕ) (names : List Bound) (types : List ValueType) (values : List Value) (locals : List BitVector) (x : BitVector) → AreNames d depth names types →
    NamesStand d depth names types values locals → NamesStand d (depth + 1) names types values (x ∷ locals)
stand-deeper d depth [] [] [] locals x are h = tt
stand-deeper d depth [] [] (v ∷ values) locals x are h = absurd h
stand-deeper d depth [] (t ∷ types) values locals x are h = absurd are
stand-deeper d depth (b ∷ names) [] values locals x are h = absurd are
stand-deeper d depth (b ∷ names) (t ∷ types) [] locals x are h = absurd h
stand-deeper d depth (b ∷ names) (t ∷ types) (v ∷ values) locals x are h = (
  subst (λ i. Stands d (Some t) (Some v) (slice_index_or (x ∷ locals) i unit)) (sym (further depth b are.0.0)) h.0,
  stand-deeper d depth names types values locals x are.1 h.1,
)

-- a name that the new let binds
innermost : (depth width : ℕ) → place_of (depth + 1) (record { level = depth; width = width }) ≡ 0
innermost depth width = omega arith

pub names-bind : (d : Checked) (depth : ℕ) (names : List Bound) (types : List ValueType) (t : ValueType) (width : ℕ) → width ≡ width_of d t → IsType d t → AreNames d depth names types →
    AreNames d (depth + 1) (record { level = depth; width = width } ∷ names) (t ∷ types)
names-bind d depth names types t width e valid are = ((omega arith, e, valid), names-deeper d depth names types are)

pub fit-bind : (d : Checked) (depth : ℕ) (names : List Bound) (types : List ValueType) (widths : List ℕ) (width : ℕ) → AreNames d depth names types → NamesFit depth names widths →
    NamesFit (depth + 1) (record { level = depth; width = width } ∷ names) (width ∷ widths)
fit-bind d depth names types widths width are h = (
  subst (λ i. slice_get (width ∷ widths) i ≡ Some width) (sym (innermost depth width)) refl,
  fit-deeper d depth names types widths width are h,
)

pub stand-bind : (d : Checked) (depth : ℕ) (names : List Bound) (types : List ValueType) (values : List Value) (locals : List BitVector) (t : ValueType) (v : Value) (x : BitVector) (width : ℕ) →
    AreNames d depth names types → NamesStand d depth names types values locals → Stands d (Some t) (Some v) x →
    NamesStand d (depth + 1) (record { level = depth; width = width } ∷ names) (t ∷ types) (v ∷ values) (x ∷ locals)
stand-bind d depth names types values locals t v x width are h is = (
  subst (λ i. Stands d (Some t) (Some v) (slice_index_or (x ∷ locals) i unit)) (sym (innermost depth width)) is,
  stand-deeper d depth names types values locals x are h,
)

-- the name of a number
pub record NameAt (d : Checked) (depth index : ℕ) (names : List Bound) (types : List ValueType) (t : ValueType) : Type 0 where
  pub bound : Bound
  pub is : slice_get names index ≡ Some bound
  pub level : bound.level < depth
  pub width : bound.width ≡ width_of d t
  pub valid : IsType d t
  pub fits : (widths : List ℕ) → NamesFit depth names widths → slice_get widths (place_of depth bound) ≡ Some bound.width
  pub stands : (values : List Value) (locals : List BitVector) → NamesStand d depth names types values locals →
      Stands d (Some t) (slice_get values index) (slice_index_or locals (place_of depth bound) unit)

first_stands : (d : Checked) (depth : ℕ) (b : Bound) (names : List Bound) (u t : ValueType) (types : List ValueType) (values : List Value) (locals : List BitVector) → u ≡ t →
    NamesStand d depth (b ∷ names) (u ∷ types) values locals → Stands d (Some t) (slice_get values 0) (slice_index_or locals (place_of depth b) unit)
first_stands d depth b names u t types [] locals e h = absurd h
first_stands d depth b names u t types (v ∷ values) locals e h = subst (λ (of : ValueType). Stands d (Some of) (Some v) (slice_index_or locals (place_of depth b) unit)) e h.0

later_stands : (d : Checked) (depth index : ℕ) (b b' : Bound) (names : List Bound) (u t : ValueType) (types : List ValueType) (values : List Value) (locals : List BitVector) →
    ((values : List Value) (locals : List BitVector) → NamesStand d depth names types values locals → Stands d (Some t) (slice_get values index) (slice_index_or locals (place_of depth b') unit)) →
    NamesStand d depth (b ∷ names) (u ∷ types) values locals → Stands d (Some t) (slice_get values (suc index)) (slice_index_or locals (place_of depth b') unit)
later_stands d depth index b b' names u t types [] locals rest h = absurd h
later_stands d depth index b b' names u t types (v ∷ values) locals rest h = rest values locals h.1

pub name-at : (d : Checked) (depth index : ℕ) (names : List Bound) (types : List ValueType) (t : ValueType) → AreNames d depth names types → slice_get types index ≡ Some t →
    NameAt d depth index names types t
name-at d depth index [] [] t are h = cc
name-at d depth index [] (u ∷ types) t are h = absurd are
name-at d depth index (b ∷ names) [] t are h = absurd are
name-at d depth zero (b ∷ names) (u ∷ types) t are h =
    let e : u ≡ t = cc in
    record {
      bound = b;
      is = refl;
      level = are.0.0;
      width = are.0.1 ∙ ap (width_of d) e;
      valid = subst (IsType d) e are.0.2;
      fits = λ widths f. f.0;
      stands = λ values locals st. first_stands d depth b names u t types values locals e st;
    }
name-at d depth (suc index) (b ∷ names) (u ∷ types) t are h =
    let rest = name-at d depth index names types t are.1 h in
    record {
      bound = rest.bound;
      is = rest.is;
      level = rest.level;
      width = rest.width;
      valid = rest.valid;
      fits = λ widths f. rest.fits widths f.1;
      stands = λ values locals st. later_stands d depth index b rest.bound names u t types values locals rest.stands st;
    }
