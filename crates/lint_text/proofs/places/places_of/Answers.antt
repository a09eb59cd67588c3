use Rattle.std.proofs.Common.{◌++◌, ◌∙◌, List, ap, map, refl, sym, arith}
use Rattle.kw_base.specs.Place.{place_at}
use Rattle.kw_base.specs.declared.place.Place.{Place}
use Rattle.koika_syntax.specs.declared.tree.Declaration.{Declaration}
use Rattle.lint_text.specs.inner.Kinds.{place_by}
use Rattle.lint_text.proofs.Ranges.{flat_take}
use Rattle.lint_text.proofs.places.places_of.Goals as goal

pub loop-declaration-init : goal.loop-declaration-init
unfolding place_at
loop-declaration-init c = (refl, c.new-found.ensures)

pub loop-declaration-preserved : goal.loop-declaration-preserved
loop-declaration-preserved c =
    let text = c.args.text.now in
    let kind = c.args.kind in
    let f : Declaration → List Place = λ (declaration : Declaration). map (place_at text) (place_by kind declaration) in (
      c.in_ok-mark.ensures.mark,
      c.in_ok-mark.ensures.found ∙ ap (λ (places : List Place). places ++ f c.declaration-item.result) c.loop-declaration.invariant.1
          ∙ sym (flat_take f c.as_slice-declarations.result.now c.loop-declaration.declaration-index c.declaration-item.result (omega arith) c.declaration-item.is),
    )
