-- The places of the names of one kind of declarations.
use Rattle.std.specs.Prelude.{ℕ, List}
use Rattle.koika_syntax.specs.declared.tree.Declaration.{Declaration}
use Rattle.koika_check.specs.Checks.{input_place, register_place, rule_place}
use Rattle.lint_text.specs.Places.{host_place, table_place}
use Rattle.lint_text.specs.declared.places.Kind.{Kind}
use Rattle.lint_text.specs.declared.places.Kind.TheVariants as kinds

abbrev pub place_by : Kind → Declaration → List ℕ
place_by kinds.Rule = rule_place
place_by kinds.Register = register_place
place_by kinds.Input = input_place
place_by kinds.Table = table_place
place_by kinds.Host = host_place
