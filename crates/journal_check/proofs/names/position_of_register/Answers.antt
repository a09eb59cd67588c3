use Rattle.std.proofs.Common.{sym, ap, ◌∙◌}
use Rattle.std.specs.Str.{bytes_eq}
use Rattle.typed_core.specs.declared.design.Parts.{Parts}
use Rattle.typed_core.specs.declared.design.RegDecl.{RegDecl}
use Rattle.journal_check.proofs.NamesFound.{name_found, name_missing, name_passed}
use Rattle.journal_check.proofs.names.position_of_register.Goals as goal

pub returns-then-eq : goal.returns-then-eq
returns-then-eq c =
    name_found (λ (decl : RegDecl). decl.name) c.args.design.now.regs c.as_slice-regs.result.now c.args.name.now c.loop-number.number c.index-regs-number.result
    (c.as_slice-regs.ensures ∙ ap (λ (d : Parts). d.regs) c.design.view_is) c.loop-number-test.true c.index-regs-number.is c.loop-number.invariant
    (ap (bytes_eq c.args.name.now) (ap (λ (decl : RegDecl). decl.name) c.index-regs-number.is ∙ sym c.as_slice.ensures) ∙ sym c.eq.ensures ∙ c.if-eq.true)

pub loop-number-preserved : goal.loop-number-preserved
loop-number-preserved c =
    name_passed (λ (decl : RegDecl). decl.name) c.args.design.now.regs c.as_slice-regs.result.now c.args.name.now c.loop-number.number c.index-regs-number.result
    (c.as_slice-regs.ensures ∙ ap (λ (d : Parts). d.regs) c.design.view_is) c.loop-number-test.true c.index-regs-number.is c.loop-number.invariant
    (ap (bytes_eq c.args.name.now) (ap (λ (decl : RegDecl). decl.name) c.index-regs-number.is ∙ sym c.as_slice.ensures) ∙ sym c.eq.ensures ∙ c.if-eq.false)

pub returns : goal.returns
returns c =
    name_missing (λ (decl : RegDecl). decl.name) c.args.design.now.regs c.as_slice-regs.result.now c.args.name.now c.loop-number.number
    (c.as_slice-regs.ensures ∙ ap (λ (d : Parts). d.regs) c.design.view_is) c.loop-number-test.false c.loop-number.invariant
