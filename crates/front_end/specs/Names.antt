-- The names of a typed design.
use Rattle.std.specs.Prelude.{All, AllPairs, List, [], ◌∷◌, ◌++◌, ℕ, map, ◌≢◌}
use denote.Struct.Props as logic
use Rattle.koika_syntax.specs.Lexemes.{IsWord}
use Rattle.koika_types.specs.declared.declarations.EnumDecl.{EnumDecl}
use Rattle.koika_check.specs.declared.checked.Checked.{Checked}
use Rattle.koika_check.specs.declared.checked.CheckedFunction.{CheckedFunction}
use Rattle.koika_check.specs.declared.checked.Host.{Host}
use Rattle.koika_check.specs.declared.checked.Input.{Input}
use Rattle.koika_check.specs.declared.checked.Register.{Register}
use Rattle.koika_check.specs.declared.checked.CheckedRule.{CheckedRule}
use Rattle.koika_check.specs.declared.checked.Struct.{Struct}
use Rattle.koika_check.specs.declared.checked.Table.{Table}
use Rattle.front_end.specs.Sources.{name_of}

-- each name of the design's inputs, registers and rules is a word
pub record HasWordNames (d : Checked) : Type 0 where
  pub inputs : All (λ (i : Input). IsWord i.name) d.inputs
  pub registers : All (λ (r : Register). IsWord r.name) d.registers
  pub rules : All (λ (r : CheckedRule). IsWord r.name) d.rules

-- that a text is a word is one fact
pub IsWord-prop : (bytes : List ℕ) → IsProp (IsWord bytes)
IsWord-prop [] = Prim.hlevel
IsWord-prop (b ∷ bytes) = Prim.hlevel logic.props

-- the names of the design's inputs, rules and registers
abbrev pub names_of : Checked → List (List ℕ)
names_of d = map (λ (i : Input). i.name) d.inputs ++ map name_of d.rules ++ map (λ (r : Register). r.name) d.registers

-- all names that are declared, as whatever
abbrev pub global_names : Checked → List (List ℕ)
global_names d =
    map (λ (e : EnumDecl). e.name) d.enums
    ++ (map (λ (s : Struct). s.name) d.structs
    ++ (map (λ (r : Register). r.name) d.registers
    ++ (map (λ (i : Input). i.name) d.inputs
    ++ (map (λ (t : Table). t.name) d.tables
    ++ (map (λ (h : Host). h.name) d.hosts ++ (map (λ (f : CheckedFunction). f.name) d.functions ++ map name_of d.rules))))))

-- no two of some names are equal
abbrev pub AreDistinct : List (List ℕ) → Type 0
AreDistinct names = AllPairs (λ a b. a ≢ b) names
