use Rattle.std.proofs.Common.{Some, ap, refl, subst, sym, ◌∙◌}
use Rattle.koika_check.specs.inner.Checking.{AreTypes}
use Rattle.koika_check.specs.Scopes.{called_function}
use Rattle.koika_check.specs.declared.typed.Operation.TheVariants as operation
use Rattle.koika_check.proofs.CalledTypes.{at-index, signature-at}
use Rattle.koika_check.proofs.checker.Checker.called_function.Goals as goal

pub returns : goal.returns
returns c =
    let f = at-index c.args.self.now.design.functions c.args.number c.requires.declared in
    let h = signature-at c.args.self.now c.requires.checker c.args.number c.index-signature.result.now f.0 c.requires.declared c.index-signature.ensures f.2 in (
      record { operation = operation.Call c.args.number; parameters = f.0.parameters; gives = f.0.result },
      ap (called_function (Some c.args.number)) f.1,
      record {
        operation = refl;
        parameters = subst (λ s. AreTypes c.args.self.now s f.0.parameters) (sym (c.in_ok-from_slice.ensures ∙ c.as_slice.ensures)) h.parameters;
        gives = h.result;
      },
    )
