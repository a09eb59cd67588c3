use Rattle.std.proofs.Common.{Err, Ok, Some, ap, refl, subst, sym, ◌∙◌}
use Rattle.std.proofs.lemmas.Result.{err_from_is_err_and}
use Rattle.kw_base.specs.declared.fault_number.TheConstants.{WRONG_WIDTH}
use Rattle.koika_check.specs.inner.Checking.{IsWidth, StandsFor, arrays_of}
use Rattle.koika_check.specs.Composites.{fields_of}
use Rattle.koika_check.specs.Outcomes.{holds, unless, wrong}
use Rattle.koika_check.specs.inner.Outcomes.{Tells}
use Rattle.koika_check.specs.Types.{is_width, of_base, part}
use Rattle.koika_check.specs.declared.shapes.Shape.TheVariants as shape
use Rattle.koika_check.specs.declared.typed.BaseType.TheVariants as base
use Rattle.koika_check.proofs.Checkers.{is-width, width-base}
use Rattle.koika_check.proofs.Compositions.{given-shapes, names-condition, values-fit}
use Rattle.koika_check.proofs.Telling.{holds-true, passes-err, passes-ok, smaller-both, three-is}
use Rattle.koika_check.proofs.checker.Checker.struct_of.Goals as goal

pub returns-in_err-refuse : goal.returns-in_err-refuse
returns-in_err-refuse c xs given =
    let p = err_from_is_err_and c.from_residual.result c.from_residual.ensures.1 in
    let arrays = arrays_of c.args.self.now in
    let fields = fields_of c.args.self.now.design c.args.number in
    let whole = part (Some (of_base (base.Struct c.args.number))) c.args.place in
    let is = three-is c.wrong_name.result c.wrong_value.result c.unless-fits.result _ _ _ c.least-values.result c.least.result whole c.least.ensures c.least-values.ensures
    (names-condition c.args.self.now c.args.number c.index.result.now c.args.given.now xs c.args.close c.requires.declared c.index.ensures given _ _ c.len-declared.ensures c.wrong_name.ensures)
    (c.wrong_value.ensures arrays c.requires.checker.shapes.arrays (given-shapes c.args.self.now fields fields c.args.given.now xs given) ∙ values-fit c.args.self.now fields fields c.args.given.now xs given)
    (c.unless-fits.ensures ∙ ap (λ b. holds b (wrong WRONG_WIDTH c.args.place)) (c.is_width.ensures ∙ ap is_width (c.width.ensures ∙ width-base c.args.self.now.design (base.Struct c.args.number)))) in
    rw (p.1, p.2) (subst (λ o. Tells (StandsFor c.args.self.now) o (Err c.in_err-refuse.field-0.0)) (sym is) (passes-err _ (StandsFor c.args.self.now) c.least.result whole _ c.in_err-refuse.ensures))

pub returns : goal.returns
returns c xs given =
    let arrays = arrays_of c.args.self.now in
    let fields = fields_of c.args.self.now.design c.args.number in
    let whole = part (Some (of_base (base.Struct c.args.number))) c.args.place in
    let is = three-is c.wrong_name.result c.wrong_value.result c.unless-fits.result _ _ _ c.least-values.result c.least.result whole c.least.ensures c.least-values.ensures
    (names-condition c.args.self.now c.args.number c.index.result.now c.args.given.now xs c.args.close c.requires.declared c.index.ensures given _ _ c.len-declared.ensures c.wrong_name.ensures)
    (c.wrong_value.ensures arrays c.requires.checker.shapes.arrays (given-shapes c.args.self.now fields fields c.args.given.now xs given) ∙ values-fit c.args.self.now fields fields c.args.given.now xs given)
    (c.unless-fits.ensures ∙ ap (λ b. holds b (wrong WRONG_WIDTH c.args.place)) (c.is_width.ensures ∙ ap is_width (c.width.ensures ∙ width-base c.args.self.now.design (base.Struct c.args.number)))) in
    let none = passes-ok c.least.result _ c.in_ok-refuse.ensures in
    let behind = (smaller-both c.wrong_name.result c.least-values.result (sym c.least.ensures ∙ none)).1 in
    let last = (smaller-both c.wrong_value.result c.unless-fits.result (sym c.least-values.ensures ∙ behind)).1 in
    let fits = sym c.is_width.ensures ∙ holds-true c.is_width.result _ (sym c.unless-fits.ensures ∙ last) in
    subst (λ o. Tells (StandsFor c.args.self.now) o (Ok (record { of = Some (shape.Struct c.args.number); place = c.args.place }))) (sym (is ∙ ap (λ d. unless d whole) none))
    (refl, record { known = tt; named = c.requires.declared; width = subst IsWidth c.width.ensures (is-width c.width.result fits) })
