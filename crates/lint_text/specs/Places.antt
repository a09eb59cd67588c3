-- Where the names of a design's declarations are in its text, by the tree of the text.
use Rattle.std.specs.Prelude.{ℕ, List, [], ◌∷◌, map}
use Rattle.std.specs.List.{flat_map}
use Rattle.kw_base.specs.Place.{place_at}
use Rattle.kw_base.specs.declared.place.Place.{Place}
use Rattle.koika_syntax.specs.declared.tree.Declaration.{Declaration}
use Rattle.koika_syntax.specs.declared.tree.Declaration.TheVariants as declarations
use Rattle.koika_syntax.specs.declared.tree.Tree.{Tree}
use Rattle.koika_check.specs.Checks.{input_place, register_place, rule_place}
use Rattle.lint_text.specs.declared.places.Places.{Places}

-- the place of a table's name
abbrev pub table_place : Declaration → List ℕ
table_place (declarations.Table n input output entries) = n.place ∷ []
table_place declaration = []

-- the place of a host function's name
abbrev pub host_place : Declaration → List ℕ
host_place (declarations.Host n input output) = n.place ∷ []
host_place declaration = []

-- lines and columns of such names, in order of declaration
abbrev pub places_by : (Declaration → List ℕ) → (text : List ℕ) → Tree → List Place
places_by place text tree = flat_map (λ (declaration : Declaration). map (place_at text) (place declaration)) tree.declarations

-- those of each kind
unfoldable pub places_in : (text : List ℕ) → Tree → Places
places_in text tree = record {
  rules = places_by rule_place text tree;
  registers = places_by register_place text tree;
  inputs = places_by input_place text tree;
  tables = places_by table_place text tree;
  hosts = places_by host_place text tree;
}
