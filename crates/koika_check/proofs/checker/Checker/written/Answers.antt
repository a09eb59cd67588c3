use Rattle.std.proofs.Common.{[], ◌∷◌, None, ap, refl, sym, ◌∙◌}
use Rattle.std.proofs.lemmas.Result.{err_from_is_err_and}
use Rattle.koika_check.specs.inner.Checking.{TypedAs, arrays_of}
use Rattle.koika_check.specs.inner.Shapes.{part_of}
use Rattle.koika_check.specs.Types.{agrees}
use Rattle.koika_check.specs.declared.typed.Operation.TheVariants as operation
use Rattle.koika_check.specs.declared.typed.Typed.TheVariants as made
use Rattle.koika_check.proofs.Leaves.{leaf-gives}
use Rattle.koika_check.proofs.PartTypes.{part-shape, register-type}
use Rattle.koika_check.proofs.Telling.{one-err, one-ok}
use Rattle.koika_check.proofs.checker.Checker.written.Goals as goal

pub returns-in_err-refuse : goal.returns-in_err-refuse
returns-in_err-refuse c =
    let p = err_from_is_err_and c.from_residual.result c.from_residual.ensures.1 in
    let new = part_of (arrays_of c.args.self.now) c.args.new.part in
    let of = register-type c.args.self.now c.requires.checker c.args.register c.index.result.now c.requires.declared c.index.ensures in
    rw (p.1, p.2)
    (one-err _ (TypedAs c.args.self.now) c.agrees.result _ _ _
    (c.agrees.ensures (arrays_of c.args.self.now) c.requires.checker.shapes.arrays of.1.known (part-shape c.args.self.now c.args.new.part.of c.requires.part) ∙ ap (λ o. agrees o new) (sym of.0)) c.in_err-refuse.ensures)

pub returns : goal.returns
returns c =
    let new = part_of (arrays_of c.args.self.now) c.args.new.part in
    let of = register-type c.args.self.now c.requires.checker c.args.register c.index.result.now c.requires.declared c.index.ensures in
    leaf-gives c.args.self.now _ None None c.args.place (made.Apply (operation.Write c.args.port c.args.register) (c.args.new.typed ∷ [])) c.apply_one.result
    (one-ok c.agrees.result _ _ _
    (c.agrees.ensures (arrays_of c.args.self.now) c.requires.checker.shapes.arrays of.1.known (part-shape c.args.self.now c.args.new.part.of c.requires.part) ∙ ap (λ o. agrees o new) (sym of.0)) c.in_ok-refuse.ensures)
    refl tt c.apply_one.ensures
