use Rattle.std.proofs.Common.{◌≡◌, map, take}
use Rattle.std.specs.List.{flat_map}
use Rattle.kw_base.specs.Place.{place_at}
use Rattle.koika_syntax.specs.declared.tree.Declaration.{Declaration}
use Rattle.lint_text.specs.inner.Kinds.{place_by}
use Rattle.lint_text.proofs.places.places_of.Given as goal

abbrev pub invariant-loop-declaration : goal.invariant-loop-declaration
invariant-loop-declaration l = (l.mark.place ≡ place_at l.fn.text l.mark.offset) × (l.found ≡ flat_map (λ (declaration : Declaration). map (place_at l.fn.text) (place_by l.fn.kind declaration)) (take l.declaration-index l.declarations))
