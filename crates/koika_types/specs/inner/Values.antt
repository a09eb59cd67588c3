-- What private functions alone cite of this crate's `Values`.
use Rattle.std.specs.Prelude.{List, All, sum_by}
use Rattle.koika_types.specs.Types.{IsTable, IsType, IsWidth, width}
use Rattle.koika_types.specs.declared.ty.Ty.{Ty}
use Rattle.koika_types.specs.declared.declarations.Declarations.{Declarations}
use Rattle.koika_types.specs.declared.value.Value.{Value}
use Rattle.koika_types.specs.Values.{Pairwise, IsOf}

-- the value is of a valid type of some table
abbrev pub IsValue : Value → Type 0
IsValue value = (d : Declarations) × (ty : Ty) × IsTable d × IsType d ty × IsOf d value ty

-- the values are of valid types of some table, and have 1 to 128 bits together
abbrev pub AreParts : List Value → Type 0
AreParts values = (d : Declarations) × (types : List Ty) × IsTable d × All (IsType d) types × Pairwise (IsOf d) values types × IsWidth (sum_by (width d) types)
