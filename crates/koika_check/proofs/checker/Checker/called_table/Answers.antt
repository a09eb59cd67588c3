use Rattle.std.proofs.Common.{[], ◌∷◌, ◌++◌, Some, ap, length, refl, subst, sym, ◌∙◌}
use Rattle.std.proofs.lemmas.Option.{slice_get_read}
use Rattle.koika_check.specs.inner.Checking.{AreTypes, IsWidth}
use Rattle.koika_check.specs.Scopes.{called_table}
use Rattle.koika_check.specs.Types.{bits}
use Rattle.koika_check.specs.declared.checked.Table.{Table}
use Rattle.koika_check.specs.declared.shapes.Shape.TheVariants as shape
use Rattle.koika_check.specs.declared.typed.Operation.TheVariants as operation
use Rattle.koika_check.proofs.CalledTypes.{repeated-types}
use Rattle.koika_check.proofs.PartTypes.{bits-type}
use Rattle.koika_check.proofs.checker.Checker.called_table.Goals as goal

pub returns : goal.returns
returns c =
    let t = c.index.result.now in
    let widths = subst (λ (x : Table). IsWidth x.spec.in_width × IsWidth x.spec.out_width) (sym c.index.ensures) (c.requires.checker.widths.tables c.args.number t c.requires.declared) in (
      record { operation = operation.Table c.args.number; parameters = bits t.spec.in_width ∷ []; gives = Some (bits t.spec.out_width) },
      ap (called_table (Some c.args.number)) (slice_get_read c.args.self.now.design.tables (length c.args.self.now.design.tables) c.args.number t refl c.requires.declared c.index.ensures),
      record {
        operation = refl;
        parameters = subst (λ s. AreTypes c.args.self.now s (bits t.spec.in_width ∷ [])) (sym (c.in_ok-push.ensures.ok ∙ ap (λ s. s ++ shape.Bits t.spec.in_width ∷ []) c.new-parameters.ensures)) (repeated-types c.args.self.now 1 t.spec.in_width widths.0);
        gives = record { is = refl; known = bits-type c.args.self.now t.spec.out_width widths.1.some widths.1.most };
      },
    )
