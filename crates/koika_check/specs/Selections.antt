-- The types of the parts that suffixes take of a value. This project's own rules; widths and places as IEEE 1800-2017 has
-- them for packed types (7.2.1, 7.4.1).
use Rattle.std.specs.Prelude.{ℕ, ◌+◌, ◌-◌, ◌&&◌, nat_le, nat_lt, List, [], ◌∷◌, drop, sum_by, Option, Some, None}
use Rattle.kw_base.specs.declared.fault_number.TheConstants.{WRONG_FIELD, WRONG_WIDTH}
use Rattle.koika_syntax.specs.declared.tree.Name.{Name}
use Rattle.koika_syntax.specs.declared.tree.Number.{Number}
use Rattle.koika_syntax.specs.declared.tree.Suffix.{Suffix}
use Rattle.koika_syntax.specs.declared.tree.Suffix.TheVariants as suffixes
use Rattle.koika_check.specs.Outcomes.{CheckResult, ◌>>=◌, Fails, Condition, holds, where_all, found, wrong}
use Rattle.koika_check.specs.Types.{TypedPart, agrees, as_bits, as_struct, bits, width_of, wrong_type}
use Rattle.koika_check.specs.Composites.{field_named, fields_of, type_at}
use Rattle.koika_check.specs.declared.checked.Checked.{Checked}
use Rattle.koika_check.specs.declared.checked.CheckedField.{CheckedField}
use Rattle.koika_check.specs.declared.typed.Selection.{Selection}
use Rattle.koika_check.specs.declared.typed.Selection.TheVariants as selection
use Rattle.koika_check.specs.declared.typed.ValueType.{ValueType}

-- a part of a value and its type
pub record Selected : Type 0 where
  pub selection : Selection
  pub of : ValueType

-- the field of this number: the later ones are below it
abbrev pub field_at : Checked → List CheckedField → ℕ → ValueType → Selected
field_at d fields number of = record {
  selection = selection.Field number (sum_by (λ (f : CheckedField). width_of d f.of) (drop (number + 1) fields)) (width_of d of);
  of = of;
}

-- a field of a struct, if it is there
abbrev pub field_if : Checked → List CheckedField → Option ℕ → Option ValueType → Option Selected
field_if d fields (Some number) (Some of) = Some (field_at d fields number of)
field_if d fields number of = None

-- `.f`: a struct (22) with that field (24)
abbrev pub select_field : Checked → TypedPart → Name → CheckResult Selected
select_field d whole n = found (as_struct whole.of) (wrong_type whole) >>= λ s.
    found
    (field_if d (fields_of d s) (field_named (fields_of d s) n.text) (type_at (fields_of d s) (field_named (fields_of d s) n.text)))
    (wrong WRONG_FIELD n.place)

-- an array: its length and its items' type
pub record Items : Type 0 where
  pub length : ℕ
  pub of : ValueType

-- the items of an array type, by its lengths
abbrev pub items_by : ValueType → List ℕ → Option Items
items_by t [] = None
items_by t (length ∷ lengths) = Some (record { length = length; of = record { base = t.base; lengths = lengths } })

-- the items of a type that is an array
abbrev pub as_array : Option ValueType → Option Items
as_array None = None
as_array (Some t) = items_by t t.lengths

-- an index below a length (23)
abbrev pub in_range : Number → ℕ → Condition
in_range index length = holds (nat_lt index.value length) (wrong WRONG_WIDTH index.place)

-- the item at an index; bits from one place down to another
abbrev pub item_at : Checked → ℕ → ValueType → Selected
item_at d index of = record { selection = selection.Item index (width_of d of); of = of }

-- the bits from an upper to a lower place
abbrev pub bits_at : (high low : ℕ) → Selected
bits_at high low = record { selection = selection.Bits high low; of = bits (high - low + 1) }

-- `[i]`: an array or bits (22), i in range (23)
abbrev pub index_of : Checked → TypedPart → Number → Option Items → Option ℕ → CheckResult Selected
index_of d whole i (Some items) width = where_all (in_range i items.length ∷ []) (item_at d i.value items.of)
index_of d whole i None (Some width) = where_all (in_range i width ∷ []) (bits_at i.value i.value)
index_of d whole i None None = Fails (wrong_type whole)

-- `[h:l]`: bits (22), `l <= h < width` (23)
abbrev pub select_slice : TypedPart → (high low : Number) → CheckResult Selected
select_slice whole high low = found (as_bits whole.of) (wrong_type whole) >>= λ width.
    where_all (holds (nat_le low.value high.value && nat_lt high.value width) (wrong WRONG_WIDTH high.place) ∷ []) (bits_at high.value low.value)

-- what a suffix takes
abbrev pub select : Checked → TypedPart → Suffix → CheckResult Selected
select d whole (suffixes.Field n) = select_field d whole n
select d whole (suffixes.Index i) = index_of d whole i (as_array whole.of) (as_bits whole.of)
select d whole (suffixes.Slice high low) = select_slice whole high low

-- `update`: a struct and a field (22, 24), or an array and an index in range (22, 23); the new part agrees
abbrev pub replace_field : Checked → TypedPart → Name → (new : TypedPart) → CheckResult Selected
replace_field d whole n new = select_field d whole n >>= λ field. where_all (agrees (Some field.of) new ∷ []) field

-- an item of an array that a new value takes the place of
abbrev pub replace_item : Checked → TypedPart → Number → (new : TypedPart) → CheckResult Selected
replace_item d whole i new = found (as_array whole.of) (wrong_type whole) >>= λ items.
    where_all (in_range i items.length ∷ agrees (Some items.of) new ∷ []) (item_at d i.value items.of)
