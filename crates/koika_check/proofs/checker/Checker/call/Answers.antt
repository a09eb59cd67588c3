use Rattle.std.proofs.Common.{ap, ap₂, length, map, nat_eq, sym, ◌∙◌}
use Rattle.std.proofs.lemmas.List.{length-map}
use Rattle.std.proofs.lemmas.List.Elements.{All-same, All-weaker}
use Rattle.std.proofs.lemmas.Result.{err_from_is_err_and}
use Rattle.kw_base.specs.declared.fault_number.TheConstants.{WRONG_ARGUMENT_COUNT}
use Rattle.koika_check.specs.inner.Checking.{IsPart, IsType, TypedAs, arrays_of}
use Rattle.koika_check.specs.Constructs.{Typing, arguments_agree, typing}
use Rattle.koika_check.specs.Outcomes.{Gives, holds, wrong}
use Rattle.koika_check.specs.inner.Shapes.{IsShape, IsShapeIf, part_of, type_of_shape}
use Rattle.koika_check.specs.declared.agreement.Part.{Part}
use Rattle.koika_check.specs.declared.typed.Typed.TheVariants as made
use Rattle.koika_check.proofs.Leaves.{leaf-ok}
use Rattle.koika_check.proofs.PartTypes.{part-shape}
use Rattle.koika_check.proofs.Telling.{two-err, two-ok}
use Rattle.koika_check.proofs.checker.Checker.call.Goals as goal

pub returns-in_err-refuse : goal.returns-in_err-refuse
returns-in_err-refuse c x xs called values =
    let p = err_from_is_err_and c.from_residual.result c.from_residual.ensures.1 in
    let arrays = arrays_of c.args.self.now in
    let long = sym (length-map xs (λ (t : Typing). t.part)) ∙ ap length values.parts ∙ length-map c.args.values.parts (part_of arrays) in
    let many = ap length called.parameters.are ∙ length-map c.args.called.parameters (type_of_shape arrays) in
    rw (p.1, p.2)
    (two-err _ (TypedAs c.args.self.now) c.has_as_many-as_many.result c.arguments_agree.result _ _ c.least.result _ _ c.least.ensures
    (c.has_as_many-as_many.ensures ∙ ap₂ (λ a b. holds (nat_eq a b) (wrong WRONG_ARGUMENT_COUNT c.args.name.now.place)) (ap length c.as_slice-arguments.ensures ∙ sym long) (ap length c.as_slice-parameters.ensures ∙ sym many))
    (c.arguments_agree.ensures arrays c.requires.checker.shapes.arrays
    (All-same (IsShape (length arrays)) _ _ c.as_slice-parameters.ensures (All-weaker (IsType c.args.self.now) (IsShape (length arrays)) (λ s t. t.known) c.args.called.parameters called.parameters.each))
    (All-same (λ (q : Part). IsShapeIf arrays q.of) _ _ c.as_slice-arguments.ensures (All-weaker (IsPart c.args.self.now) (λ (q : Part). IsShapeIf arrays q.of) (λ q h. part-shape c.args.self.now q.of h) c.args.values.parts values.types))
    ∙ ap₂ (λ ss ps. arguments_agree (map (type_of_shape arrays) ss) (map (part_of arrays) ps)) c.as_slice-parameters.ensures c.as_slice-arguments.ensures
    ∙ ap₂ arguments_agree (sym called.parameters.are) (sym values.parts)) c.in_err-refuse.ensures)

pub returns : goal.returns
returns c x xs called values =
    let arrays = arrays_of c.args.self.now in
    let long = sym (length-map xs (λ (t : Typing). t.part)) ∙ ap length values.parts ∙ length-map c.args.values.parts (part_of arrays) in
    let many = ap length called.parameters.are ∙ length-map c.args.called.parameters (type_of_shape arrays) in
    leaf-ok c.args.self.now _ c.args.called.gives x.gives c.args.name.now.place (made.Apply c.args.called.operation c.args.values.typed) c.at.result
    (two-ok c.has_as_many-as_many.result c.arguments_agree.result _ _ c.least.result _ _ c.least.ensures
    (c.has_as_many-as_many.ensures ∙ ap₂ (λ a b. holds (nat_eq a b) (wrong WRONG_ARGUMENT_COUNT c.args.name.now.place)) (ap length c.as_slice-arguments.ensures ∙ sym long) (ap length c.as_slice-parameters.ensures ∙ sym many))
    (c.arguments_agree.ensures arrays c.requires.checker.shapes.arrays
    (All-same (IsShape (length arrays)) _ _ c.as_slice-parameters.ensures (All-weaker (IsType c.args.self.now) (IsShape (length arrays)) (λ s t. t.known) c.args.called.parameters called.parameters.each))
    (All-same (λ (q : Part). IsShapeIf arrays q.of) _ _ c.as_slice-arguments.ensures (All-weaker (IsPart c.args.self.now) (λ (q : Part). IsShapeIf arrays q.of) (λ q h. part-shape c.args.self.now q.of h) c.args.values.parts values.types))
    ∙ ap₂ (λ ss ps. arguments_agree (map (type_of_shape arrays) ss) (map (part_of arrays) ps)) c.as_slice-parameters.ensures c.as_slice-arguments.ensures
    ∙ ap₂ arguments_agree (sym called.parameters.are) (sym values.parts)) c.in_ok-refuse.ensures
    ∙ ap₂ (λ o ts. Gives (typing x.gives c.args.name.now.place (made.Apply o ts))) called.operation values.typed)
    called.gives.is called.gives.known c.at.ensures
