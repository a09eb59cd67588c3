use Rattle.std.proofs.Common.{◌≡◌, ◌+◌, ◌∷◌, [], ◌++◌, ap, arith, length, length-append, map, refl, subst, sym, ◌∙◌}
use Rattle.std.proofs.lemmas.Result.{err_from_is_err_and}
use Rattle.kw_base.specs.declared.fault_number.TheConstants.{UNKNOWN_NAME}
use Rattle.koika_types.specs.declared.value.Value.TheVariants as value
use Rattle.koika_check.specs.inner.Checking.{AreGiven, AreKnown, Checks, IsKnown, IsPartIn, Yields, arrays_of, scope_of}
use Rattle.koika_check.specs.Composites.{array_of, fields_of, member}
use Rattle.koika_check.specs.inner.Shapes.{part_of}
use Rattle.koika_check.specs.Constants.{constant_of, struct_known}
use Rattle.koika_check.specs.inner.Constants.{constant_field_of}
use Rattle.koika_check.specs.Constants as constants
use Rattle.koika_check.specs.Outcomes.{◌>>=◌, found, in_turn, wrong}
use Rattle.koika_check.specs.inner.Outcomes.{Ends}
use Rattle.koika_check.specs.Kinds.{number_named}
use Rattle.koika_check.specs.declared.things.Kind.TheVariants as kind
use Rattle.koika_check.proofs.ConstantParts.{constant-Array, constant-Literal, constant-Member, constant-Struct}
use Rattle.koika_check.proofs.Knowns.{array-ends, array-gives, fields-ends, fields-more, known-ends, known-more, literal-gives, member-known, struct-ends, struct-gives}
use Rattle.koika_check.proofs.Growth.{checker-of}
use Rattle.koika_check.proofs.Telling.{tells-found}
use Rattle.koika_check.proofs.Turns.{ends-behind, ends-bind, ends-same, ends-tells, gives-behind}
use Rattle.koika_check.proofs.checker.Checker.+constant.Goals as goal

pub constant_struct-returns-in_err-number : goal.constant_struct-returns-in_err-number
constant_struct-returns-in_err-number t c =
    let p = err_from_is_err_and c.from_residual.result c.from_residual.ensures.1 in
    let struct = found (number_named kind.Struct c.args.self.now.design c.args.of.now.text) (wrong UNKNOWN_NAME c.args.of.now.place) in
    rw (p.1, p.2) (ends-bind struct _ _ (ends-tells (λ n of. n ≡ of) struct _ c.in_err-number.ensures.found))

pub constant_struct-returns-in_err-fields : goal.constant_struct-returns-in_err-fields
constant_struct-returns-in_err-fields t c =
    let p = err_from_is_err_and c.from_residual-in_err-fields.result c.from_residual-in_err-fields.ensures.1 in
    let d = c.args.self.now.design in
    let struct = found (number_named kind.Struct d c.args.of.now.text) (wrong UNKNOWN_NAME c.args.of.now.place) in
    let n = c.in_ok-number.number in
    let named = ap (λ o. found o (wrong UNKNOWN_NAME c.args.of.now.place)) (tells-found _ (wrong UNKNOWN_NAME c.args.of.now.place) n c.in_ok-number.ensures.found) in
    let fields = in_turn (λ f. constant_field_of f d) c.args.fields.now in
    rw (p.1, p.2)
    (ends-behind struct (λ m. fields >>= struct_known d m c.args.of.now.place c.args.close) n _ named
    (ends-bind fields _ _ c.in_err-fields.ensures))

pub constant_struct-returns-in_err-struct_of : goal.constant_struct-returns-in_err-struct_of
constant_struct-returns-in_err-struct_of t c =
    let p = err_from_is_err_and c.from_residual-in_err-struct_of.result c.from_residual-in_err-struct_of.ensures.1 in
    let d = c.args.self.now.design in
    let struct = found (number_named kind.Struct d c.args.of.now.text) (wrong UNKNOWN_NAME c.args.of.now.place) in
    let n = c.in_ok-number.number in
    let named = ap (λ o. found o (wrong UNKNOWN_NAME c.args.of.now.place)) (tells-found _ (wrong UNKNOWN_NAME c.args.of.now.place) n c.in_ok-number.ensures.found) in
    let fields = in_turn (λ f. constant_field_of f d) c.args.fields.now in
    let new = c.constant_fields.new.self in
    let h = c.in_ok-fields.ensures in
    rw (p.1, p.2)
    (ends-behind struct (λ m. fields >>= struct_known d m c.args.of.now.place c.args.close) n _ named
    (struct-ends c.args.self.now new n c.args.of.now.place c.args.close fields c.in_ok-fields.fields _ h
    (c.in_err-struct_of.ensures (map constants.given h.value) (subst (λ g. AreGiven new (fields_of new.design n) (fields_of new.design n) g (map constants.given h.value)) (sym c.as_slice-given.ensures) h.means.given))))

pub constant_struct-returns : goal.constant_struct-returns
constant_struct-returns t c =
    let d = c.args.self.now.design in
    let struct = found (number_named kind.Struct d c.args.of.now.text) (wrong UNKNOWN_NAME c.args.of.now.place) in
    let n = c.in_ok-number.number in
    let named = ap (λ o. found o (wrong UNKNOWN_NAME c.args.of.now.place)) (tells-found _ (wrong UNKNOWN_NAME c.args.of.now.place) n c.in_ok-number.ensures.found) in
    let fields = in_turn (λ f. constant_field_of f d) c.args.fields.now in
    let new = c.constant_fields.new.self in
    let h = c.in_ok-fields.ensures in
    subst (λ o. Yields (IsKnown (scope_of c.args.self.now)) c.args.self.now o new (record { part = c.in_ok-struct_of.field-0; value = value.Fields n c.in_ok-fields.fields.values }))
    (sym (gives-behind struct (λ m. fields >>= struct_known d m c.args.of.now.place c.args.close) n named))
    (struct-gives c.args.self.now new n c.args.of.now.place c.args.close fields c.in_ok-fields.fields c.in_ok-struct_of.field-0 h
    (c.in_ok-struct_of.ensures (map constants.given h.value) (subst (λ g. AreGiven new (fields_of new.design n) (fields_of new.design n) g (map constants.given h.value)) (sym c.as_slice-given.ensures) h.means.given)))

pub constant-returns-in-Struct : goal.constant-returns-in-Struct
constant-returns-in-Struct t c =
    let d = c.args.self.now.design in
    let struct = found (number_named kind.Struct d c.in-Struct.of.text) (wrong UNKNOWN_NAME c.in-Struct.of.place) in
    subst (λ o. Checks (IsKnown (scope_of c.args.self.now)) c.args.self.now o c.constant_struct.new.self c.constant_struct.result)
    (sym (ap (λ k. constant_of k d) c.in-Struct.is ∙ constant-Struct c.in-Struct.of c.in-Struct.fields c.in-Struct.close d))
    (subst (λ xs. Checks (IsKnown (scope_of c.args.self.now)) c.args.self.now (struct >>= λ n. in_turn (λ f. constant_field_of f d) xs >>= struct_known d n c.in-Struct.of.place c.in-Struct.close) c.constant_struct.new.self c.constant_struct.result) c.as_slice.ensures c.constant_struct.ensures)

pub constant-returns-in_err-known-in-Array : goal.constant-returns-in_err-known-in-Array
constant-returns-in_err-known-in-Array t c =
    let p = err_from_is_err_and c.from_residual.result c.from_residual.ensures.1 in
    let d = c.args.self.now.design in
    rw (p.1, p.2)
    (ends-same _ _ _ (ap (λ k. constant_of k d) c.in-Array.is ∙ constant-Array c.in-Array.place c.in-Array.elements d)
    (ends-bind (in_turn (λ e. constant_of e d) c.in-Array.elements) _ _ (subst (λ xs. Ends (in_turn (λ e. constant_of e d) xs) c.in_err-known-in-Array.field-0.0) c.as_slice-in-Array.ensures c.in_err-known-in-Array.ensures)))

pub constant-returns-in_err-array_of-in-Array : goal.constant-returns-in_err-array_of-in-Array
constant-returns-in_err-array_of-in-Array t c =
    let p = err_from_is_err_and c.from_residual-in_err-array_of-in-Array.result c.from_residual-in_err-array_of-in-Array.ensures.1 in
    let d = c.args.self.now.design in
    let new = c.constants.new.self in
    let items = in_turn (λ e. constant_of e d) c.in-Array.elements in
    let h = subst (λ xs. Yields (AreKnown (scope_of c.args.self.now)) c.args.self.now (in_turn (λ e. constant_of e d) xs) new c.in_ok-known-in-Array.known) c.as_slice-in-Array.ensures c.in_ok-known-in-Array.ensures in
    rw (p.1, p.2)
    (ends-same _ _ _ (ap (λ k. constant_of k d) c.in-Array.is ∙ constant-Array c.in-Array.place c.in-Array.elements d)
    (array-ends c.args.self.now new c.in-Array.place items c.in_ok-known-in-Array.known _ h
    (subst (λ ps. Ends (array_of new.design c.in-Array.place (map (part_of (arrays_of new)) ps)) c.in_err-array_of-in-Array.field-0.0) c.as_slice-in-Array-2.ensures c.in_err-array_of-in-Array.ensures)))

pub constant-returns-in-Literal : goal.constant-returns-in-Literal
constant-returns-in-Literal t c =
    let d = c.args.self.now.design in
    literal-gives c.args.self.now (checker-of c.args.self.now c.requires) _ _ _ _ (ap (λ k. constant_of k d) c.in-Literal.is ∙ constant-Literal c.in-Literal.literal d) (c.literal_part.ensures c.args.self.now) refl

pub constant-returns-in-Member : goal.constant-returns-in-Member
constant-returns-in-Member t c =
    let d = c.args.self.now.design in
    subst (λ o. Checks (IsKnown (scope_of c.args.self.now)) c.args.self.now o c.args.self.now c.member.result) (sym (ap (λ k. constant_of k d) c.in-Member.is ∙ constant-Member c.in-Member.of c.in-Member.member d))
    (member-known c.args.self.now (checker-of c.args.self.now c.requires) c.in-Member.of.place (member d c.in-Member.of c.in-Member.member) c.member.result c.member.ensures)

pub constant-returns-in_ok-array_of-in-Array : goal.constant-returns-in_ok-array_of-in-Array
constant-returns-in_ok-array_of-in-Array t c =
    let d = c.args.self.now.design in
    let new = c.constants.new.self in
    let items = in_turn (λ e. constant_of e d) c.in-Array.elements in
    let h = subst (λ xs. Yields (AreKnown (scope_of c.args.self.now)) c.args.self.now (in_turn (λ e. constant_of e d) xs) new c.in_ok-known-in-Array.known) c.as_slice-in-Array.ensures c.in_ok-known-in-Array.ensures in
    subst (λ o. Yields (IsKnown (scope_of c.args.self.now)) c.args.self.now o c.array_of.new.self (record { part = c.in_ok-array_of-in-Array.field-0; value = value.Items c.in_ok-known-in-Array.known.values }))
    (sym (ap (λ k. constant_of k d) c.in-Array.is ∙ constant-Array c.in-Array.place c.in-Array.elements d))
    (array-gives c.args.self.now new c.array_of.new.self c.in-Array.place items c.in_ok-known-in-Array.known c.in_ok-array_of-in-Array.field-0 h
    (subst (λ ps. Yields (IsPartIn (scope_of new)) new (array_of new.design c.in-Array.place (map (part_of (arrays_of new)) ps)) c.array_of.new.self c.in_ok-array_of-in-Array.field-0) c.as_slice-in-Array-2.ensures c.in_ok-array_of-in-Array.ensures))

pub constant_fields-returns-in_err-known : goal.constant_fields-returns-in_err-known
constant_fields-returns-in_err-known t c =
    let p = err_from_is_err_and c.from_residual.result c.from_residual.ensures.1 in
    rw (p.1, p.2)
    (fields-ends c.args.self.now c.loop-index.self c.args.number c.args.fields.now c.loop-index.index c.index-fields-index.result _ _ c.loop-index-test.true c.index-fields-index.is c.loop-index.invariant.1 c.in_err-known.ensures)

pub constant_fields-loop-index-preserved : goal.constant_fields-loop-index-preserved
constant_fields-loop-index-preserved t c =
    let long : length (c.loop-index.given ++ c.in_ok-given.field-0 ∷ []) ≡ c.loop-index.index + 1 = omega (arith, length-append c.loop-index.given (c.in_ok-given.field-0 ∷ []), c.loop-index.invariant.0) in
    rw (c.in_ok-push.ensures.ok, c.in_ok-push-2.ensures.ok) (
      long,
      fields-more c.args.self.now c.loop-index.self c.constant.new.self c.args.number c.args.fields.now c.loop-index.index c.index-fields-index.result (record { given = c.loop-index.given; values = c.loop-index.values }) c.in_ok-known.known c.in_ok-given.field-0
          c.loop-index-test.true c.index-fields-index.is c.loop-index.invariant.0 c.loop-index.invariant.1 c.in_ok-known.ensures c.in_ok-given.ensures,
    )

pub constants-returns-in_err-known : goal.constants-returns-in_err-known
constants-returns-in_err-known t c =
    let p = err_from_is_err_and c.from_residual.result c.from_residual.ensures.1 in
    rw (p.1, p.2)
    (known-ends c.args.self.now c.loop-element.self c.args.elements.now c.loop-element.element-index c.element-item.result (record { parts = c.loop-element.parts; values = c.loop-element.values }) _ (omega arith) c.element-item.is c.loop-element.invariant c.in_err-known.ensures)

pub constants-loop-element-preserved : goal.constants-loop-element-preserved
constants-loop-element-preserved t c =
    rw (c.in_ok-push.ensures.ok, c.in_ok-push-2.ensures.ok)
    (known-more c.args.self.now c.loop-element.self c.constant.new.self c.args.elements.now c.loop-element.element-index c.element-item.result (record { parts = c.loop-element.parts; values = c.loop-element.values }) c.in_ok-known.known
    (omega arith) c.element-item.is c.loop-element.invariant c.in_ok-known.ensures)
