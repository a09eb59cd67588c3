use Rattle.std.proofs.Common.{ℕ, List, [], ◌∷◌, ◌++◌, ◌∙◌, ap, ap₂, refl, sym, min, sum_by, length}
use Rattle.koika_check.specs.Declarations.{struct_of, struct_typed}
use Rattle.koika_check.specs.Outcomes.{◌>>=◌}
use Rattle.koika_check.specs.inner.Things.{thing_named}
use Rattle.koika_check.specs.Types.{width_of}
use Rattle.koika_check.specs.declared.checked.Checked.{Checked}
use Rattle.koika_check.specs.declared.checked.CheckedField.{CheckedField}
use Rattle.koika_check.specs.declared.checked.Struct.{Struct}
use Rattle.koika_check.proofs.Added.{declares-at}
use Rattle.koika_check.proofs.Declaring.{named-gives}
use Rattle.koika_check.proofs.Fields.{struct-settled}
use Rattle.koika_check.proofs.checker.Checker.structure_type.Goals as goal

pub declare-requires-clause-new : goal.declare-requires-clause-new
declare-requires-clause-new c = ap₂ (λ t n. thing_named t n) c.in_ok-kept.ensures.grows.things c.as_slice-2.ensures ∙ c.in_ok-is_new.ensures.2.1

pub returns-clause-kept : goal.returns-clause-kept
returns-clause-kept c =
    let a = c.args.self.now in
    let s = c.all_fields.new.self in
    let k = c.in_ok-kept.ensures in
    let number = c.in_ok-number.ensures.number ∙ c.len.ensures ∙ ap (λ (d : Checked). length d.structs) (sym k.grows.design) in
    rw (c.in_ok-push.ensures.ok, c.in_ok-push-2.ensures.ok)
    (struct-settled a s c.requires k.kept k.grows k.locals _ c.in_ok-kept.kept.shapes c.args.name.now.text c.declare.new.self c.in_ok-number.number number c.in_ok-number.ensures.small k.keeps k.answers.2.2
    (c.in_ok-text.ensures ∙ c.as_slice.ensures) (ap (λ t. thing_named t c.args.name.now.text) k.grows.things ∙ c.in_ok-is_new.ensures.2.1)
    (declares-at s.things c.declare.new.self c.args.name.now.text c.as_slice-2.result.now _ _ c.as_slice-2.ensures refl c.in_ok-declare.ensures.kept c.in_ok-declare.ensures.declares)
    k.answers.2.1.types k.answers.2.1.width)

pub returns-clause-answers : goal.returns-clause-answers
returns-clause-answers c =
    let d = c.args.self.now.design in
    let n = c.args.name.now in
    let s = c.all_fields.new.self in
    let k = c.in_ok-kept.ensures in
    let new = c.in_ok-is_new.ensures in
    let width = λ (e : Checked) (fs : List CheckedField). min (sum_by (λ (f : CheckedField). width_of e f.of) fs) 129 in
    let make = λ (m : List ℕ) (fs : List CheckedField) (w : ℕ). let one : Struct = record { name = m; fields = fs; width = w } in one in (
      make n.text k.answers.0 (width d k.answers.0),
      named-gives d n (struct_of d c.args.fields.now) new.0 new.1 new.2.0 ∙ ap (λ o. o >>= struct_typed d n.text) k.answers.1,
      ap (λ (ss : List Struct). let e : Checked = record s.design { structs = ss } in e) c.in_ok-push.ensures.ok
          ∙ ap₂ (λ (e : Checked) (x : Struct). let u : Checked = record e { structs = e.structs ++ x ∷ [] } in u) k.grows.design
          (ap₂ (λ (m : List ℕ) (fs : List CheckedField). make m fs c.in_ok-kept.kept.width) (c.in_ok-text.ensures ∙ c.as_slice.ensures) k.answers.2.0
          ∙ ap (make n.text k.answers.0) (k.answers.2.1.width ∙ ap₂ width k.grows.design k.answers.2.0)),
    )
