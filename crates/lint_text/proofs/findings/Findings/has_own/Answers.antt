use Rattle.std.proofs.Common.{◌∙◌, ℕ, length, sym, arith}
use Rattle.lab_lint.specs.Refusals.{own_writes}
use Rattle.lab_lint.specs.Rules.{has_any}
use Rattle.lint_text.proofs.Ranges.{any_found, none_more}
use Rattle.lint_text.proofs.findings.Findings.has_own.Goals as goal

pub returns-then-has_own_of : goal.returns-then-has_own_of
returns-then-has_own_of c =
    let d = c.args.design.now in
    sym (any_found (λ (register : ℕ). has_any (own_writes d c.args.rule register)) c.loop-register.register (length d.registers)
    (omega (arith, c.loop-register-test.true, c.len-register-end.ensures)) (sym c.has_own_of.ensures ∙ c.if-has_own_of.true))

pub loop-register-preserved : goal.loop-register-preserved
loop-register-preserved c =
    let d = c.args.design.now in
    none_more (λ (register : ℕ). has_any (own_writes d c.args.rule register)) c.loop-register.register c.loop-register.invariant
    (sym c.has_own_of.ensures ∙ c.if-has_own_of.false)
