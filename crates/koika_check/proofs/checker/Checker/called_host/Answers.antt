use Rattle.std.proofs.Common.{◌/◌, Some, ap, length, refl, replicate, subst, sym, ◌∙◌}
use Rattle.std.proofs.lemmas.Option.{slice_get_read}
use Rattle.kw_bits.specs.Host.{TakesWidth, arity, out_width}
use Rattle.koika_check.specs.inner.Checking.{AreTypes, IsWidth}
use Rattle.koika_check.specs.Scopes.{called_host}
use Rattle.koika_check.specs.Types.{bits}
use Rattle.koika_check.specs.declared.checked.Host.{Host}
use Rattle.koika_check.specs.declared.shapes.Shape.TheVariants as shape
use Rattle.koika_check.specs.declared.typed.Operation.TheVariants as operation
use Rattle.koika_check.proofs.CalledTypes.{answer-width, argument-width, repeated-types}
use Rattle.koika_check.proofs.PartTypes.{bits-type}
use Rattle.koika_check.proofs.checker.Checker.called_host.Goals as goal

pub returns : goal.returns
returns c =
    let h = c.index.result.now in
    let takes = subst (λ (x : Host). TakesWidth x.spec.kind x.spec.in_width) (sym c.index.ensures) (c.requires.checker.widths.hosts c.args.number h c.requires.declared) in
    let width = h.spec.in_width / arity h.spec.kind in
    let answer = subst IsWidth (sym c.out_width.ensures) (answer-width h.spec.kind h.spec.in_width takes) in (
      record { operation = operation.Host c.args.number; parameters = replicate (arity h.spec.kind) (bits width); gives = Some (bits (out_width h.spec.kind h.spec.in_width)) },
      ap (called_host (Some c.args.number)) (slice_get_read c.args.self.now.design.hosts (length c.args.self.now.design.hosts) c.args.number h refl c.requires.declared c.index.ensures),
      record {
        operation = refl;
        parameters = subst (λ s. AreTypes c.args.self.now s (replicate (arity h.spec.kind) (bits width)))
            (sym (c.in_ok-parameters.ensures ∙ ap (λ n. replicate n (shape.Bits (h.spec.in_width / n))) c.arity-arity.ensures.arity))
            (repeated-types c.args.self.now (arity h.spec.kind) width (argument-width h.spec.kind h.spec.in_width takes));
        gives = record { is = ap (λ n. Some (bits n)) (sym c.out_width.ensures); known = bits-type c.args.self.now c.out_width.result answer.some answer.most };
      },
    )
