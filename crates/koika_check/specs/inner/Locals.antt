-- The locals that names stand for, by their places in a list whose last is the innermost. All of it serves private
-- functions alone.
use Rattle.std.specs.Prelude.{◌≡◌, ℕ, ◌<◌, ◌≤◌, ◌^◌, ⊤, nat_eq, if◌then◌else◌, map, List, [], ◌∷◌, length, Option, Some, None, slice_index_or}
use Rattle.koika_check.specs.Scopes.{Local}
use Rattle.koika_check.specs.inner.Shapes.{type_of_shape}
use Rattle.koika_check.specs.declared.locals.Bound.{Bound}
use Rattle.koika_check.specs.declared.locals.Locals.{Locals}
use Rattle.koika_check.specs.declared.shapes.Shape.{Shape}
use Rattle.koika_check.specs.declared.typed.ValueType.{ValueType}

-- the innermost first, in front of others
abbrev pub inside_of : (inner : List Bound) → List Bound → List Bound
inside_of inner [] = inner
inside_of inner (b ∷ later) = inside_of (b ∷ inner) later

-- the place of the innermost with this name
abbrev pub place_of : List Bound → (name : ℕ) → Option ℕ
place_of [] name = None
place_of (b ∷ rest) name = if nat_eq name b.name then Some (length rest) else place_of rest name

-- each has a name, and hides the next of its name
abbrev pub AllHide : (names : ℕ) → List Bound → Type 0
AllHide names [] = ⊤
AllHide names (b ∷ rest) = (b.name < names) × (b.hides ≡ place_of rest b.name) × AllHide names rest

-- each name has the place of the innermost local of this name
pub record AreLocals (s : Locals) : Type 0 where
  pub numbers : length s.innermost ≡ length s.names
  pub places : (name : ℕ) (d : Option ℕ) → name < length s.names → slice_index_or s.innermost name d ≡ place_of (inside_of [] s.bound) name
  pub hidden : AllHide (length s.names) (inside_of [] s.bound)
  pub few : length s.bound ≤ 2 ^ 32

-- the locals by name and type, the innermost first
abbrev pub local_of : List ValueType → List (List ℕ) → Bound → Local
local_of arrays names b = record { name = slice_index_or names b.name []; of = type_of_shape arrays b.shape }

abbrev pub locals_of : List ValueType → Locals → List Local
locals_of arrays s = map (local_of arrays s.names) (inside_of [] s.bound)

-- their shapes, the outermost first
abbrev pub shapes_of : Locals → List Shape
shapes_of s = map (λ (b : Bound). b.shape) s.bound
