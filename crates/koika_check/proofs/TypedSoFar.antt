-- Designs that are well typed as far as they are declared, and the widths of their types.
use Rattle.std.proofs.Common.{◌≡◌, ℕ, zero, suc, ◌*◌, ◌<◌, ◌≤◌, List, [], ◌∷◌, length, map, slice_get, slice_index, Option, Some, None, arith, refl, ap, subst, ◌∙◌}
use Rattle.std.specs.List.{All}
use Rattle.std.specs.Option.{option_map}
use Rattle.std.proofs.lemmas.Option.{get_or_from_slice_get, slice_get-map, slice_get_within}
use Rattle.kw_bits.specs.Laws.{HasWidth}
use Rattle.koika_types.specs.declared.declarations.EnumDecl.{EnumDecl}
use Rattle.koika_types.specs.declared.declarations.Member.{Member}
use Rattle.typed_core.specs.Valid.{IsHost, IsTable, IsWidth}
use Rattle.koika_check.specs.Composites.{field_named, fields_by, fields_of}
use Rattle.koika_check.specs.Scopes.{Local, Scope}
use Rattle.koika_check.specs.Types.{all_lengths, array, base_width, bits, of_base, width_of}
use Rattle.koika_check.specs.Typing.{HasType, IsAmong, IsFunction, IsInput, IsRegister, IsStruct, IsType, IsTypedDesign}
use Rattle.koika_check.specs.declared.checked.Checked.{Checked}
use Rattle.koika_check.specs.declared.checked.CheckedField.{CheckedField}
use Rattle.koika_check.specs.declared.checked.CheckedFunction.{CheckedFunction}
use Rattle.koika_check.specs.declared.checked.Host.{Host}
use Rattle.koika_check.specs.declared.checked.CheckedRule.{CheckedRule}
use Rattle.koika_check.specs.declared.checked.Struct.{Struct}
use Rattle.koika_check.specs.declared.checked.Table.{Table}
use Rattle.koika_check.specs.declared.typed.BaseType.{BaseType}
use Rattle.koika_check.specs.declared.typed.BaseType.TheVariants as base
use Rattle.koika_check.specs.declared.typed.ValueType.{ValueType}

-- ---- designs so far

-- the members of an enum have its width
abbrev pub IsEnumSoFar : EnumDecl → Type 0
IsEnumSoFar e = IsWidth e.width × All (λ (m : Member). HasWidth m.bits e.width) e.members

-- each field is found by its name
abbrev pub AreDistinct : List CheckedField → Type 0
AreDistinct fields = (i : ℕ) (f : CheckedField) → slice_get fields i ≡ Some f → field_named fields f.name ≡ Some i

-- all of a well typed design but its schedule and its limits, and what tells names apart
pub record IsTypedSoFar (d : Checked) : Type 0 where
  pub enums : All IsEnumSoFar d.enums
  pub structs : (number : ℕ) (s : Struct) → slice_get d.structs number ≡ Some s → IsStruct d number s × AreDistinct s.fields
  pub registers : All (IsRegister d) d.registers
  pub inputs : All (IsInput d) d.inputs
  pub tables : All (λ (t : Table). IsTable t.spec × IsWidth t.spec.out_width) d.tables
  pub hosts : All (λ (h : Host). IsHost h.spec) d.hosts
  pub functions : (number : ℕ) (f : CheckedFunction) → slice_get d.functions number ≡ Some f → IsFunction d number f
  pub rules : All (λ (r : CheckedRule). HasType d (length d.functions) r.body [] None) d.rules
  pub asserts : All (λ rule. rule < length d.rules) d.asserts

-- the parts of a design that types speak of are well typed
pub record DeclaresTypes (d : Checked) : Type 0 where
  pub structs : (number : ℕ) (s : Struct) → slice_get d.structs number ≡ Some s → IsStruct d number s
  pub registers : All (IsRegister d) d.registers
  pub inputs : All (IsInput d) d.inputs
  pub tables : All (λ (t : Table). IsTable t.spec × IsWidth t.spec.out_width) d.tables
  pub hosts : All (λ (h : Host). IsHost h.spec) d.hosts
  pub functions : (number : ℕ) (f : CheckedFunction) → slice_get d.functions number ≡ Some f → IsFunction d number f

pub declares-so-far : (d : Checked) → IsTypedSoFar d → DeclaresTypes d
declares-so-far d h = record { structs = λ number s e. (h.structs number s e).0; registers = h.registers; inputs = h.inputs; tables = h.tables; hosts = h.hosts; functions = h.functions }

pub declares-whole : (d : Checked) → IsTypedDesign d → DeclaresTypes d
declares-whole d h = record { structs = h.structs; registers = h.registers; inputs = h.inputs; tables = h.tables; hosts = h.hosts; functions = h.functions }

-- the types of the names that are bound, and a scope in which they are types of values
abbrev pub types_in : Scope → List ValueType
types_in scope = map (λ (l : Local). l.of) scope.locals

pub record IsGood (scope : Scope) : Type 0 where
  pub design : IsTypedSoFar scope.design
  pub locals : All (IsType scope.design) (types_in scope)

-- ---- what is found in lists

pub all-at : {X : Type 0} (P : X → Type 0) (xs : List X) (i : ℕ) (x : X) → All P xs → slice_get xs i ≡ Some x → P x
all-at P xs i x h e = subst P (get_or_from_slice_get xs i x x e) (h i x (slice_get_within xs i x e))

-- what is looked up and isn't 0 is there
pub looked-up : {X : Type 0} (f : X → ℕ) (xs : List X) (n : ℕ) → 1 ≤ slice_index (map f xs) n → (x : X) × (slice_get xs n ≡ Some x)
looked-up f [] n h = absurd (omega (arith, h))
looked-up f (x ∷ xs) zero h = (x, refl)
looked-up f (x ∷ xs) (suc n) h = looked-up f xs n h

-- and what is there is looked up
pub lookup : {X : Type 0} (f : X → ℕ) (xs : List X) (n : ℕ) (x : X) → slice_get xs n ≡ Some x → slice_index (map f xs) n ≡ f x
lookup f xs n x e = get_or_from_slice_get (map f xs) n (f x) 0 (slice_get-map f xs n ∙ ap (option_map f) e)

-- ---- widths

factor_some : (w l : ℕ) → 1 ≤ w * l → 1 ≤ w
factor_some zero l h = absurd (omega (arith, h))
factor_some (suc w) l h = omega arith

factor_most : (w l : ℕ) → 1 ≤ w * l → w * l ≤ 128 → w ≤ 128
factor_most w l some most = grind arith

-- bits, and bases, of 1 to 128 bits
pub bits-type : (d : Checked) (w : ℕ) → IsWidth w → IsType d (bits w)
bits-type d w h = (omega (arith, h.0), omega (arith, h.1))

pub type-bits : (d : Checked) (w : ℕ) → IsType d (bits w) → IsWidth w
type-bits d w h = (omega (arith, h.0), omega (arith, h.1))

pub bits-width : (d : Checked) (t : ValueType) (w : ℕ) → IsType d t → t ≡ bits w → IsWidth w
bits-width d t w h e = type-bits d w (subst (IsType d) e h)

pub base-type : (d : Checked) (b : BaseType) → IsWidth (base_width d b) → IsType d (of_base b)
base-type d b h = (omega (arith, h.0), omega (arith, h.1))

-- a base of values has a width
pub some-base : (d : Checked) (t : ValueType) → IsType d t → 1 ≤ base_width d t.base
some-base d t h = factor_some (base_width d t.base) (all_lengths t.lengths) h.0

-- items of an array of values are values
pub item-type : (d : Checked) (n : ℕ) (t : ValueType) → IsType d (array n t) → IsType d t
item-type d n t h =
    let w = width_of d t in
    let whole : width_of d (array n t) ≡ w * n = omega arith in
    (factor_some w n (omega (arith, whole, h.0)), factor_most w n (omega (arith, whole, h.0)) (omega (arith, whole, h.1)))

-- ---- fields

-- a struct of values, and a field, are declared
pub struct-there : (d : Checked) (number : ℕ) → IsType d (of_base (base.Struct number)) → (s : Struct) × (slice_get d.structs number ≡ Some s)
struct-there d number h = looked-up (λ (s : Struct). s.width) d.structs number (some-base d (of_base (base.Struct number)) h)

pub field-there : (d : Checked) (number i : ℕ) (f : CheckedField) → slice_get (fields_of d number) i ≡ Some f → (s : Struct) × (slice_get d.structs number ≡ Some s) × (slice_get s.fields i ≡ Some f)
field-there d number i f e = by_struct (slice_get d.structs number) refl e
  where
    by_struct : (o : Option Struct) → slice_get d.structs number ≡ o → slice_get (fields_by o) i ≡ Some f → (s : Struct) × (slice_get d.structs number ≡ Some s) × (slice_get s.fields i ≡ Some f)
    by_struct None o e = absurd cc
    by_struct (Some s) o e = (s, o, e)

-- the fields of structs are values
pub field-type : (d : Checked) → DeclaresTypes d → (number i : ℕ) (f : CheckedField) → slice_get (fields_of d number) i ≡ Some f → IsType d f.of
field-type d h number i f e =
    let s = field-there d number i f e in
    (all-at (λ (g : CheckedField). IsType d g.of × IsAmong number g.of.base) s.0.fields i f (h.structs number s.0 s.1).fields s.2).0

pub field-types : (d : Checked) → DeclaresTypes d → (number : ℕ) (s : Struct) → slice_get d.structs number ≡ Some s → All (λ (f : CheckedField). IsType d f.of) s.fields
field-types d h number s e k f lt = ((h.structs number s e).fields k f lt).0
