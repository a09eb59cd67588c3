-- What is declared, by kinds: the names of each kind in the order of their declarations, and their numbers in it. This
-- project's own rules.
use Rattle.std.specs.Prelude.{ℕ, map, List, Option}
use Rattle.kw_base.specs.Names.{number_of}
use Rattle.koika_types.specs.declared.declarations.EnumDecl.{EnumDecl}
use Rattle.koika_check.specs.declared.checked.Checked.{Checked}
use Rattle.koika_check.specs.declared.checked.CheckedFunction.{CheckedFunction}
use Rattle.koika_check.specs.declared.checked.CheckedRule.{CheckedRule}
use Rattle.koika_check.specs.declared.checked.Host.{Host}
use Rattle.koika_check.specs.declared.checked.Input.{Input}
use Rattle.koika_check.specs.declared.checked.Register.{Register}
use Rattle.koika_check.specs.declared.checked.Struct.{Struct}
use Rattle.koika_check.specs.declared.checked.Table.{Table}
use Rattle.koika_check.specs.declared.things.Kind.{Kind}
use Rattle.koika_check.specs.declared.things.Kind.TheVariants as kind

-- the names of what is declared of a kind, in order
abbrev pub names_of : Kind → Checked → List (List ℕ)
names_of kind.Enum d = map (λ (e : EnumDecl). e.name) d.enums
names_of kind.Struct d = map (λ (s : Struct). s.name) d.structs
names_of kind.Register d = map (λ (r : Register). r.name) d.registers
names_of kind.Input d = map (λ (i : Input). i.name) d.inputs
names_of kind.Table d = map (λ (t : Table). t.name) d.tables
names_of kind.Host d = map (λ (h : Host). h.name) d.hosts
names_of kind.Function d = map (λ (f : CheckedFunction). f.name) d.functions
names_of kind.Rule d = map (λ (r : CheckedRule). r.name) d.rules

-- the number of what is declared of a kind by this name
abbrev pub number_named : Kind → Checked → List ℕ → Option ℕ
number_named k d = number_of (names_of k d)
