-- The parts of a declaration that is being read. All of it serves private functions alone.
use Rattle.std.specs.Prelude.{◌≡◌, ◌≢◌, ℕ, List, map, min, sum_by}
use Rattle.kw_base.specs.Names.{number_of}
use Rattle.koika_check.specs.inner.Checking.{AreTypes, Grows}
use Rattle.koika_check.specs.inner.Things.{key_of_declaration, position_of}
use Rattle.koika_check.specs.Types.{width_of}
use Rattle.koika_check.specs.declared.checked.CheckedField.{CheckedField}
use Rattle.koika_check.specs.declared.checker.Checker.{Checker}
use Rattle.koika_check.specs.declared.structs.Fields.{Fields}
use Rattle.koika_check.specs.declared.parts.Parts.{Parts}
use Rattle.koika_check.specs.declared.things.Thing.{Thing}

-- the parts of a declaration have these names, in order
abbrev pub Lists : Parts → Thing → List (List ℕ) → Type 0
Lists p of names = (name : List ℕ) → position_of p of name ≡ number_of names name

-- the parts of all others stayed
abbrev pub Keeps : (old new : Parts) → Thing → Type 0
Keeps old new of = (other : Thing) (name : List ℕ) → key_of_declaration other ≢ key_of_declaration of → position_of new other name ≡ position_of old other name

-- the fields that are read, with their shapes and their width together
pub record AreFields (c : Checker) (kept : Fields) : Type 0 where
  pub types : AreTypes c kept.shapes (map (λ (f : CheckedField). f.of) kept.fields)
  pub width : kept.width ≡ min (sum_by (λ (f : CheckedField). width_of c.design f.of) kept.fields) 129

-- array types and parts were added; what is declared stayed
abbrev pub GrowsInParts : (old new : Checker) → Type 0
GrowsInParts old new = Grows old (record new { parts = old.parts })
