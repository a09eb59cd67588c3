use Rattle.std.proofs.Common.{Some, ap, length, refl, sym, ◌<◌, ◌≡◌, ◌∙◌}
use Rattle.koika_check.specs.inner.Checking.{arrays_of, scope_of}
use Rattle.koika_check.specs.Scopes.{local_named}
use Rattle.koika_check.specs.inner.Shapes.{type_of_shape}
use Rattle.koika_check.specs.inner.Things.{number_if, thing_named}
use Rattle.koika_check.specs.declared.checked.Input.{Input}
use Rattle.koika_check.specs.declared.typed.Typed.TheVariants as made
use Rattle.koika_check.specs.Kinds.{number_named}
use Rattle.koika_check.specs.declared.things.Kind.TheVariants as kind
use Rattle.koika_check.proofs.Checkers.{named-within}
use Rattle.koika_check.proofs.Leaves.{leaf-ok, named-input, named-unknown}
use Rattle.koika_check.proofs.PartTypes.{declared-type}
use Rattle.koika_check.proofs.checker.Checker.named.Goals as goal

pub returns-in-None : goal.returns-in-None
returns-in-None c =
    let locals = ap (local_named (scope_of c.args.self.now).locals) (sym c.as_slice.ensures) ∙ c.in_default.ensures.local (arrays_of c.args.self.now) in
    let inputs = sym (c.requires.names c.args.name.now.text kind.Input) ∙ ap (number_if kind.Input) (sym (c.named-2.ensures ∙ ap (thing_named c.args.self.now.things) c.as_slice-2.ensures)) ∙ sym c.number_if.ensures ∙ c.in-None.is in
    rw (c.unknown.ensures, named-unknown (scope_of c.args.self.now) c.args.name.now locals inputs) refl

pub returns-in-Some-number_if : goal.returns-in-Some-number_if
returns-in-Some-number_if c =
    let text = c.args.name.now.text in
    let number = c.in-Some-number_if.number in
    let locals = ap (local_named (scope_of c.args.self.now).locals) (sym c.as_slice.ensures) ∙ c.in_default.ensures.local (arrays_of c.args.self.now) in
    let inputs : number_named kind.Input c.args.self.now.design text ≡ Some number =
    sym (c.requires.names text kind.Input) ∙ ap (number_if kind.Input) (sym (c.named-2.ensures ∙ ap (thing_named c.args.self.now.things) c.as_slice-2.ensures)) ∙ sym c.number_if.ensures ∙ c.in-Some-number_if.is in
    let within : number < length c.args.self.now.design.inputs = named-within kind.Input c.args.self.now.design text number inputs in
    let of = declared-type (λ (i : Input). i.of) c.args.self.now c.args.self.now.inputs c.args.self.now.design.inputs number c.index.result.now c.requires.inputs within c.index.ensures in
    leaf-ok c.args.self.now _ (Some c.index.result.now) _ c.args.name.now.place (made.Input number) c.at-in-Some-number_if.result
    (named-input (scope_of c.args.self.now) c.args.name.now number (type_of_shape (arrays_of c.args.self.now) c.index.result.now) locals inputs of.0) refl of.1 c.at-in-Some-number_if.ensures
