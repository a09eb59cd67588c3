use Rattle.std.proofs.Common.{◌∙◌, ℕ, length, sym, arith}
use Rattle.std.specs.Prelude.{◌&&◌}
use Rattle.lab_lint.specs.Rules.{may_clash}
use Rattle.lint_text.specs.Findings.{order_of}
use Rattle.lint_text.proofs.Ranges.{any_found, none_more}
use Rattle.lint_text.proofs.findings.Findings.may_be_clashed.Goals as goal

pub returns-then-may_be_clashed_by : goal.returns-then-may_be_clashed_by
returns-then-may_be_clashed_by c =
    let d = c.args.design.now in
    sym (any_found (λ (earlier : ℕ). (order_of c.args.self.now).may_precede earlier c.args.rule && may_clash d c.args.rule earlier) c.loop-earlier.earlier (length d.rules)
    (omega (arith, c.loop-earlier-test.true, c.len-earlier-end.ensures)) (sym c.may_be_clashed_by.ensures ∙ c.if-may_be_clashed_by.true))

pub loop-earlier-preserved : goal.loop-earlier-preserved
loop-earlier-preserved c =
    let d = c.args.design.now in
    none_more (λ (earlier : ℕ). (order_of c.args.self.now).may_precede earlier c.args.rule && may_clash d c.args.rule earlier) c.loop-earlier.earlier c.loop-earlier.invariant
    (sym c.may_be_clashed_by.ensures ∙ c.if-may_be_clashed_by.false)
