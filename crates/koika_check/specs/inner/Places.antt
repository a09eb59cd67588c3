-- Where the first thing too many stands, as the code looks for it. All of it serves private functions alone.
use Rattle.std.specs.Prelude.{ℕ, List, Option, Some, None, slice_get}
use Rattle.koika_syntax.specs.declared.tree.Declaration.{Declaration}
use Rattle.koika_check.specs.Checks.{input_place, register_place, rule_place}
use Rattle.koika_check.specs.declared.limits.Kind.{Kind}
use Rattle.koika_check.specs.declared.limits.Kind.TheVariants as kind

-- where the names of declarations of a kind stand
abbrev pub place_of_kind : Kind → Declaration → List ℕ
place_of_kind kind.Register = register_place
place_of_kind kind.Rule = rule_place
place_of_kind kind.Input = input_place

-- a place that is found, or the one that is found after that many others
abbrev pub or_further : Option ℕ → (behind : List ℕ) → (left : ℕ) → Option ℕ
or_further (Some place) behind left = Some place
or_further None behind left = slice_get behind left
