-- A measure of types that is less for the parts of a type: first by the greatest struct that it names, and then by how
-- many arrays stand round it.
use Rattle.std.proofs.Common.{◌≡◌, ℕ, ◌+◌, ◌*◌, ◌<◌, ◌≤◌, Some, length, sum_by, get_or, slice_get, ap, le_refl, arith}
use Rattle.std.proofs.Math.Nat.{add-mul, mul-le-mul}
use Rattle.std.proofs.lemmas.List.Sums.{sum_by_more_le}
use Rattle.std.proofs.lemmas.Option.{get_or_from_slice_get, slice_get_within}
use Rattle.koika_types.specs.Types.{IsTypeAmong}
use Rattle.koika_types.specs.declared.ty.Ty.{Ty}
use Rattle.koika_types.specs.declared.ty.Ty.TheVariants as ty
use Rattle.koika_types.specs.declared.declarations.Field.{Field}
use Rattle.koika_types.specs.declared.declarations.StructDecl.{StructDecl}
use Rattle.koika_types.specs.declared.declarations.Declarations.{Declarations}

-- how many arrays stand round the innermost type
abbrev pub arrays : Ty → ℕ
arrays (ty.Array' p item n) = arrays item + 1
arrays t = 0

-- one more than the number of the struct that is named, or 0
abbrev pub top : Ty → ℕ
top (ty.Struct n) = n + 1
top (ty.Array' p item n) = top item
top t = 0

abbrev pub arrays_in : StructDecl → ℕ
arrays_in decl = sum_by (λ (field : Field). arrays field.ty) decl.fields

-- more than the arrays that stand round any field's innermost type
abbrev pub span : Declarations → ℕ
span d = sum_by arrays_in d.structs + 1

abbrev pub rank : Declarations → Ty → ℕ
rank d t = top t * span d + arrays t

top-le : (d : Declarations) (k : ℕ) (t : Ty) → IsTypeAmong d k t → top t ≤ k
top-le d k (ty.Bits w) h = omega arith
top-le d k (ty.Enum n) h = omega arith
top-le d k (ty.Struct n) h = let lt = h.0 in omega arith
top-le d k (ty.Array' p item n) h = top-le d k item h.0

pub rank-field : (d : Declarations) (n : ℕ) (decl : StructDecl) (i : ℕ) (x : Field) → slice_get d.structs n ≡ Some decl → i < length decl.fields →
    IsTypeAmong d n (get_or decl.fields i x).ty → rank d (get_or decl.fields i x).ty < rank d (ty.Struct n)
rank-field d n decl i x is lt h =
    let t : Ty = (get_or decl.fields i x).ty in
    let of_decl = sum_by_more_le (λ (field : Field). arrays field.ty) decl.fields i x lt in
    let found : get_or d.structs n decl ≡ decl = get_or_from_slice_get d.structs n decl decl is in
    let of_table = sum_by_more_le arrays_in d.structs n decl (slice_get_within d.structs n decl is) in
    let inner : arrays_in (get_or d.structs n decl) ≡ arrays_in decl = ap arrays_in found in
    let below : top t * span d ≤ n * span d = mul-le-mul (top-le d n t h) (le_refl (span d)) in
    let above : (n + 1) * span d ≡ n * span d + 1 * span d = add-mul n 1 (span d) in
    omega (arith, of_decl, of_table, inner, below, above)

pub rank-item : (d : Declarations) (p : _) (item : Ty) (n : ℕ) → rank d item < rank d (ty.Array' p item n)
rank-item d p item n = omega arith
