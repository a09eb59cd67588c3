use Rattle.std.proofs.Common.{◌∙◌, ℕ, length, sym, arith}
use Rattle.lab_lint.specs.Refusals.{clashing}
use Rattle.lab_lint.specs.Rules.{has_any}
use Rattle.lint_text.proofs.Ranges.{any_found, none_more}
use Rattle.lint_text.proofs.findings.Findings.may_clash.Goals as goal

pub returns-then-may_clash_over : goal.returns-then-may_clash_over
returns-then-may_clash_over c =
    let d = c.args.design.now in
    sym (any_found (λ (register : ℕ). has_any (clashing d c.args.rule c.args.earlier register)) c.loop-register.register (length d.registers)
    (omega (arith, c.loop-register-test.true, c.len-register-end.ensures)) (sym c.may_clash_over.ensures ∙ c.if-may_clash_over.true))

pub loop-register-preserved : goal.loop-register-preserved
loop-register-preserved c =
    let d = c.args.design.now in
    none_more (λ (register : ℕ). has_any (clashing d c.args.rule c.args.earlier register)) c.loop-register.register c.loop-register.invariant
    (sym c.may_clash_over.ensures ∙ c.if-may_clash_over.false)
