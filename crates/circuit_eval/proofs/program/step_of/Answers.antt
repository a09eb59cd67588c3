use Rattle.std.proofs.Common.{◌∙◌, ap, refl, arith}
use Rattle.std.specs.Prelude.{Some}
use Rattle.circuit_eval.proofs.Programs.{of_ite, of_one, of_slice, of_two, of_uext}
use Rattle.circuit_eval.proofs.program.step_of.Goals as goal

pub is_narrow-requires : goal.is_narrow-requires
is_narrow-requires c =
    let h = c.requires.has in (of_one c.args.net.now h.0 c.in-One-Not-default.a c.in-One-Not-default.field-0 c.requires.net (h.1 ∙ ap Some c.in-One-Not-default.is)).within

pub width-requires-then-is_narrow : goal.width-requires-then-is_narrow
width-requires-then-is_narrow c =
    let h = c.requires.has in (of_one c.args.net.now h.0 c.in-One-Not-default.a c.in-One-Not-default.field-0 c.requires.net (h.1 ∙ ap Some c.in-One-Not-default.is)).within

pub is_narrow-requires-in-Two : goal.is_narrow-requires-in-Two
is_narrow-requires-in-Two c =
    let h = c.requires.has in (of_two c.args.net.now h.0 c.in-Two.a c.in-Two.b c.in-Two.operator c.requires.net (h.1 ∙ ap Some c.in-Two.is)).first.within

pub is_narrow-requires-else-is_narrow-2 : goal.is_narrow-requires-else-is_narrow-2
is_narrow-requires-else-is_narrow-2 c =
    let h = c.requires.has in (of_two c.args.net.now h.0 c.in-Two.a c.in-Two.b c.in-Two.operator c.requires.net (h.1 ∙ ap Some c.in-Two.is)).second.within

pub is_narrow-requires-in-Slice : goal.is_narrow-requires-in-Slice
is_narrow-requires-in-Slice c =
    let h = c.requires.has in (of_slice c.args.net.now h.0 c.in-Slice.a c.in-Slice.upper c.in-Slice.lower c.requires.net (h.1 ∙ ap Some c.in-Slice.is)).0.within

pub overflow_sub-upper : goal.overflow_sub-upper
overflow_sub-upper c =
    let h = c.requires.has in (of_slice c.args.net.now h.0 c.in-Slice.a c.in-Slice.upper c.in-Slice.lower c.requires.net (h.1 ∙ ap Some c.in-Slice.is)).1

pub overflow_add-upper : goal.overflow_add-upper
overflow_add-upper c =
    let h = c.requires.has in let p = of_slice c.args.net.now h.0 c.in-Slice.a c.in-Slice.upper c.in-Slice.lower c.requires.net (h.1 ∙ ap Some c.in-Slice.is) in omega (arith, p.1, p.2, c.if-is_narrow-4.ensures.0 refl)

pub mask_of-requires-then-is_narrow-4-clause-most : goal.mask_of-requires-then-is_narrow-4-clause-most
mask_of-requires-then-is_narrow-4-clause-most c =
    let h = c.requires.has in let p = of_slice c.args.net.now h.0 c.in-Slice.a c.in-Slice.upper c.in-Slice.lower c.requires.net (h.1 ∙ ap Some c.in-Slice.is) in omega (arith, p.1, p.2, c.if-is_narrow-4.ensures.0 refl)

pub width-requires-in-Uext : goal.width-requires-in-Uext
width-requires-in-Uext c =
    let h = c.requires.has in (of_uext c.args.net.now h.0 c.in-Uext.a c.in-Uext.added c.requires.net (h.1 ∙ ap Some c.in-Uext.is)).0.within

pub overflow_add-width : goal.overflow_add-width
overflow_add-width c =
    let h = c.requires.has in let p = of_uext c.args.net.now h.0 c.in-Uext.a c.in-Uext.added c.requires.net (h.1 ∙ ap Some c.in-Uext.is) in omega (arith, p.1, c.width-in-Uext.ensures.width)

pub is_narrow-requires-in-Ite : goal.is_narrow-requires-in-Ite
is_narrow-requires-in-Ite c =
    let h = c.requires.has in (of_ite c.args.net.now h.0 c.in-Ite.condition c.in-Ite.a c.in-Ite.b c.requires.net (h.1 ∙ ap Some c.in-Ite.is)).first.within
