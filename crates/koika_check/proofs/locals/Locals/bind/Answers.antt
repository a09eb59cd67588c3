use Rattle.std.proofs.Common.{ℕ, [], ◌∷◌, ap, ap₂, arith, List, map, ◌∙◌}
use Rattle.koika_check.specs.inner.Locals.{inside_of, local_of}
use Rattle.koika_check.specs.Scopes.{Local}
use Rattle.koika_check.specs.inner.Shapes.{type_of_shape}
use Rattle.koika_check.specs.declared.typed.ValueType.{ValueType}
use Rattle.koika_check.proofs.Bindings.{bound-kept, inside-push}
use Rattle.koika_check.proofs.Positions.{number_of-within}
use Rattle.koika_check.proofs.locals.Locals.bind.Goals as goal

pub returns-clause-kept : goal.returns-clause-kept
returns-clause-kept c =
    let number = c.in_ok-number.ensures.number in
    rw (c.set.ensures, c.in_ok-push.ensures.ok)
    (bound-kept c.number_of.new.self c.in_ok-number.ensures.kept c.in_ok-number.number c.len-place.result _ (number_of-within c.number_of.new.self.names c.args.name.now c.in_ok-number.number number).0
    (λ i. c.in_ok-number.number) c.index-hides.ensures (omega arith) (omega arith))

pub returns-clause-bound : goal.returns-clause-bound
returns-clause-bound c arrays =
    let number = c.in_ok-number.ensures.number in
    let named : List ℕ → ValueType → Local = λ m t. record { name = m; of = t } in
    ap (λ bs. map (local_of arrays c.number_of.new.self.names) (inside_of [] bs)) c.in_ok-push.ensures.ok
    ∙ ap (map (local_of arrays c.number_of.new.self.names)) (inside-push [] c.number_of.new.self.bound _)
    ∙ ap₂ (λ m ls. named m (type_of_shape arrays c.args.shape) ∷ ls) (number_of-within c.number_of.new.self.names c.args.name.now c.in_ok-number.number number).1 (c.in_ok-number.ensures.same arrays)
