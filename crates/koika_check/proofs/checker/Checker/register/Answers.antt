use Rattle.std.proofs.Common.{◌∙◌, ◌++◌, ◌∷◌, [], ap, ap₂, sym, Some}
use Rattle.std.proofs.lemmas.Result.{err_from_is_err_and}
use Rattle.koika_check.specs.inner.Checking.{arrays_of}
use Rattle.koika_check.specs.Constants.{constant_of}
use Rattle.koika_check.specs.Declarations.{register_known, register_with}
use Rattle.koika_check.specs.Types.{TypedPart, agrees, type_of, width_of}
use Rattle.koika_check.specs.declared.checked.Checked.{Checked}
use Rattle.koika_check.specs.declared.checked.Register.{Register}
use Rattle.koika_check.specs.declared.typed.ValueType.{ValueType}
use Rattle.koika_check.proofs.Answering.{ends-same, passes-ends, passes-gives}
use Rattle.koika_check.proofs.Declaring.{known-stands, named-as, register-chain, register-is, settled-grows, settled-scope}
use Rattle.koika_check.proofs.PartTypes.{part-shape}
use Rattle.koika_check.proofs.checker.Checker.register.Goals as goal

pub returns-in_err-refuse-clause-answers : goal.returns-in_err-refuse-clause-answers
returns-in_err-refuse-clause-answers c =
    let p = err_from_is_err_and c.from_residual-in_err-refuse.result c.from_residual-in_err-refuse.ensures.1 in
    let y = c.in_ok-known.ensures in
    let d = c.args.self.now.design in
    let n = c.args.name.now in
    let arrays = arrays_of c.constant.new.self in
    let new = c.in_ok-is_new.ensures in
    let named = named-as c.named_type.new.self c.in_ok-of.of (type_of d c.args.of.now) c.in_ok-of.ensures.tells in
    let stands = known-stands c.named_type.new.self c.constant.new.self y.grows c.in_ok-of.of (type_of d c.args.of.now) c.in_ok-of.ensures.tells in
    let register : Register = record { name = n.text; of = named.0; width = width_of d named.0; first = y.value.value } in
    let agree = c.agrees.ensures arrays y.kept.shapes.arrays stands.1.known (part-shape c.constant.new.self c.in_ok-known.known.part.of y.means.type)
    ∙ ap₂ (λ (u : ValueType) (q : TypedPart). agrees (Some u) q) (sym stands.0 ∙ named.2) (sym y.means.part) in
    rw (p.1, p.2)
    (ends-same (register_with d n c.args.of.now c.args.first.now) (register_known d n.text named.0 y.value) _
    (register-chain d n c.args.of.now c.args.first.now new.0 named.0 y.value new.1 new.2.0 named.1 (ap (constant_of c.args.first.now) (sym c.in_ok-of.ensures.grows.design) ∙ y.gives))
    (passes-ends _ c.agrees.result (agrees (Some named.0) y.value.part) register _ agree c.in_err-refuse.ensures))

pub width-width-requires-clause-known : goal.width-width-requires-clause-known
width-width-requires-clause-known c =
    let y = c.in_ok-known.ensures in
    (known-stands c.named_type.new.self c.constant.new.self y.grows c.in_ok-of.of (type_of c.args.self.now.design c.args.of.now) c.in_ok-of.ensures.tells).1.known

pub add_register-requires-clause-settled : goal.add_register-requires-clause-settled
add_register-requires-clause-settled c =
    let y = c.in_ok-known.ensures in
    settled-scope c.named_type.new.self c.constant.new.self (settled-grows c.args.self.now c.named_type.new.self c.requires c.in_ok-of.ensures.kept c.in_ok-of.ensures.grows c.in_ok-of.ensures.locals) y.kept y.grows y.means.scope_is

pub add_register-requires-clause-stands : goal.add_register-requires-clause-stands
add_register-requires-clause-stands c =
    let y = c.in_ok-known.ensures in
    known-stands c.named_type.new.self c.constant.new.self y.grows c.in_ok-of.of (type_of c.args.self.now.design c.args.of.now) c.in_ok-of.ensures.tells

pub returns-clause-answers : goal.returns-clause-answers
returns-clause-answers c =
    let y = c.in_ok-known.ensures in
    let d = c.args.self.now.design in
    let n = c.args.name.now in
    let arrays = arrays_of c.constant.new.self in
    let new = c.in_ok-is_new.ensures in
    let named = named-as c.named_type.new.self c.in_ok-of.of (type_of d c.args.of.now) c.in_ok-of.ensures.tells in
    let stands = known-stands c.named_type.new.self c.constant.new.self y.grows c.in_ok-of.of (type_of d c.args.of.now) c.in_ok-of.ensures.tells in
    let register : Register = record { name = n.text; of = named.0; width = width_of d named.0; first = y.value.value } in
    let same = y.grows.design ∙ c.in_ok-of.ensures.grows.design in
    let agree = c.agrees.ensures arrays y.kept.shapes.arrays stands.1.known (part-shape c.constant.new.self c.in_ok-known.known.part.of y.means.type)
    ∙ ap₂ (λ (u : ValueType) (q : TypedPart). agrees (Some u) q) (sym stands.0 ∙ named.2) (sym y.means.part) in (
      register,
      register-chain d n c.args.of.now c.args.first.now new.0 named.0 y.value new.1 new.2.0 named.1 (ap (constant_of c.args.first.now) (sym c.in_ok-of.ensures.grows.design) ∙ y.gives)
          ∙ passes-gives c.agrees.result (agrees (Some named.0) y.value.part) c.in_ok-refuse.field-0 register agree c.in_ok-refuse.ensures,
      c.in_ok-add_register.ensures.design
          ∙ ap₂ (λ (e : Checked) (r : Register). let u : Checked = record e { registers = e.registers ++ r ∷ [] } in u) same
          (register-is _ n.text named.0 (width_of d named.0) y.value.value (c.in_ok-text.ensures ∙ c.as_slice.ensures) named.2
          (c.width-width.ensures ∙ ap₂ (λ (e : Checked) (u : ValueType). width_of e u) same (sym stands.0 ∙ named.2)) (sym y.means.value)),
    )
