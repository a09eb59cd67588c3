-- How wide the values of valid types are.
use Rattle.std.proofs.Common.{ℕ, ◌*◌, ◌<◌, ◌≤◌, [], length, subst, sym, arith}
use Rattle.std.proofs.Math.Nat.{mul-le-mul}
use Rattle.std.proofs.lemmas.List.{get_or-map}
use Rattle.koika_types.specs.Types.{IsWidth, IsTable, IsTypeAmong, width}
use Rattle.koika_types.specs.declared.ty.Ty.{Ty}
use Rattle.koika_types.specs.declared.ty.Ty.TheVariants as ty
use Rattle.koika_types.specs.declared.declarations.EnumDecl.{EnumDecl}
use Rattle.koika_types.specs.declared.declarations.Declarations.{Declarations}

abbrev some_enum : EnumDecl
some_enum = record { name = []; width = 0; members = [] }

pub enum-IsWidth : (d : Declarations) (number : ℕ) → IsTable d → number < length d.enums → IsWidth (width d (ty.Enum number))
enum-IsWidth d number table within =
    subst IsWidth (sym (get_or-map (λ (decl : EnumDecl). decl.width) d.enums number some_enum 0 within)) (table.enums number some_enum within).0

-- a valid type has 1 to 128 bits
pub width-IsWidth : (d : Declarations) (structs : ℕ) → IsTable d → (t : Ty) → IsTypeAmong d structs t → IsWidth (width d t)
width-IsWidth d structs table (ty.Bits w) h = h
width-IsWidth d structs table (ty.Enum number) h = enum-IsWidth d number table h
width-IsWidth d structs table (ty.Struct number) h = h.1
width-IsWidth d structs table (ty.Array' p item length) h =
    let inner = width-IsWidth d structs table item h.0 in
    let some : 1 * 1 ≤ width d item * length = mul-le-mul inner.0 h.1 in
    (omega arith, h.3)
