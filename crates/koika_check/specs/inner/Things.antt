-- What names are declared as, told by kinds and numbers. All of it serves private functions alone.
use Rattle.std.specs.Prelude.{◌≡◌, ℕ, nat_eq, Bool, if◌then◌else◌, List, ◌∷◌, ◌++◌, length, Option, Some, None, option_and_then, slice_get}
use Rattle.std.specs.Int.{to_le_bytes, w32}
use Rattle.kw_base.specs.Names.{number_of}
use Rattle.koika_check.specs.declared.parts.Parts.{Parts}
use Rattle.koika_check.specs.declared.things.Kind.{Kind}
use Rattle.koika_check.specs.declared.things.Thing.{Thing}
use Rattle.koika_check.specs.declared.things.Things.{Things}
use Rattle.koika_check.specs.declared.things.Kind.TheVariants as kind

-- ---- kinds

-- the place of a kind among the kinds
abbrev pub place_of : Kind → ℕ
place_of kind.Enum = 0
place_of kind.Struct = 1
place_of kind.Register = 2
place_of kind.Input = 3
place_of kind.Table = 4
place_of kind.Host = 5
place_of kind.Function = 6
place_of kind.Rule = 7

-- two kinds are one
abbrev pub same_kind : Kind → Kind → Bool
same_kind j k = nat_eq (place_of j) (place_of k)

-- the thing of a kind with this number
abbrev pub thing : Kind → ℕ → Thing
thing k number = record { kind = k; number = number }

-- the number of what is declared, if it is of this kind
abbrev pub number_if : Kind → Option Thing → Option ℕ
number_if k None = None
number_if k (Some t) = if same_kind k t.kind then Some t.number else None

-- ---- names

-- what a name is declared as
abbrev pub thing_named : Things → List ℕ → Option Thing
thing_named t name = option_and_then (slice_get t.things) (number_of t.names name)

-- each name has its thing
abbrev pub AreThings : Things → Type 0
AreThings t = length t.things ≡ length t.names

-- ---- the members of enums and the fields of structs

-- the bytes that tell a part of a declaration from others
abbrev pub key_of_declaration : Thing → List ℕ
key_of_declaration t = place_of t.kind ∷ to_le_bytes w32 t.number

abbrev pub key_of_part : Thing → List ℕ → List ℕ
key_of_part of name = key_of_declaration of ++ name

-- where in its declaration the part of this name stands
abbrev pub position_of : Parts → Thing → List ℕ → Option ℕ
position_of p of name = option_and_then (slice_get p.positions) (number_of p.keys (key_of_part of name))

-- each part has its position
abbrev pub AreParts : Parts → Type 0
AreParts p = length p.positions ≡ length p.keys
