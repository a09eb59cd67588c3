-- What a table of ids holds, by its fields.
use Rattle.std.specs.BTreeMap as map
use Rattle.std.specs.Ordering.{nat_cmp}
use Rattle.std.specs.Prelude.{ℕ, Option, None, Some, slice_get}
use Rattle.btor2_model.specs.declared.table.Table.{Table}

-- what is at a place, if there is such a place, or else the other
abbrev pub at_place : {V : Type 0} → Option (Option V) → Option V → Option V
at_place None other = other
at_place (Some value) other = value

-- the value of an id, if it has one
abbrev pub value_in : {V : Type 0} → Table V → ℕ → Option V
value_in table id = at_place (slice_get table.low.items id) (map.get nat_cmp table.high id)
