use Rattle.std.proofs.Common.{[], ◌∷◌, ap, ap₂, map, refl, sym, ◌∙◌}
use Rattle.std.proofs.lemmas.List.{take_all}
use Rattle.koika_syntax.specs.declared.tree.Prefix.{Prefix}
use Rattle.koika_check.specs.inner.Checking.{arrays_of}
use Rattle.koika_check.specs.Constructs.{typing}
use Rattle.koika_check.specs.Outcomes.{Gives}
use Rattle.koika_check.specs.inner.Shapes.{part_of}
use Rattle.koika_check.specs.Types.{as_bits, wrong_type}
use Rattle.koika_check.specs.declared.typed.Operation.TheVariants as operation
use Rattle.koika_check.specs.declared.typed.Typed.TheVariants as made
use Rattle.koika_check.proofs.Leaves.{bits-known, leaf-gives}
use Rattle.koika_check.proofs.PartTypes.{part-shape}
use Rattle.koika_check.proofs.Telling.{tells-found}
use Rattle.koika_check.proofs.checker.Checker.unary.Goals as goal

pub returns : goal.returns
returns c =
    let arrays = arrays_of c.args.self.now in
    let inner = part_of arrays c.args.inner.part in
    let operators = c.loop-prefix.invariant ∙ ap (map (λ (p : Prefix). p.operator)) (take_all c.loop-prefix.prefix-index c.args.prefixes.now c.loop-prefix-test.false) in
    let known = tells-found (as_bits inner.of) (wrong_type inner) c.in_ok-width_of_bits.field-0 (c.in_ok-width_of_bits.ensures arrays c.requires.checker.shapes.arrays (part-shape c.args.self.now c.args.inner.part.of c.requires.part)) in
    leaf-gives c.args.self.now _ c.args.inner.part.of inner.of c.place_of_prefixes-place.result (made.Apply (operation.Unary c.loop-prefix.operators) (c.args.inner.typed ∷ [])) c.apply_one.result
    (bits-known inner c.in_ok-width_of_bits.field-0 _ known
    ∙ ap₂ (λ q os. Gives (typing inner.of q (made.Apply (operation.Unary os) (c.args.inner.typed ∷ [])))) (sym c.place_of_prefixes-place.ensures) (sym operators))
    refl c.requires.part c.apply_one.ensures
