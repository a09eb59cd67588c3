use Rattle.std.proofs.Common.{◌≡◌, arith, subst, sym}
use Rattle.std.proofs.lemmas.Grind.{common_steps}
use Rattle.typed_core.specs.Valid.{IsValid}
use Rattle.typed_core.specs.Widths.{HaveWidths, register_widths}
use Rattle.one_rule.specs.Run.{first_values}
use Rattle.one_rule.proofs.Fitting.{first_values_fit}
use Rattle.one_rule.proofs.rows.first_values.Goals as goal

pub returns-clause-fit : goal.returns-clause-fit
returns-clause-fit c =
    let design = c.args.design.now in
    let valid = subst IsValid c.design.view_is c.design.invariant in
    let same : c.loop-decl.regs ≡ first_values design = grind (arith, common_steps) in
    subst (HaveWidths (register_widths design)) (sym same) (first_values_fit design valid)
