use Rattle.std.proofs.Common.{◌≡◌, ap, length, arith}
use Rattle.std.proofs.lemmas.Result.{err_from_is_err_and}
use Rattle.front_end.proofs.Told.{told-as, told-empty}
use Rattle.lint_text.specs.Findings.{order_of}
use Rattle.lab_top.specs.inner.Lint.{pairs_of, pairs_to}
use Rattle.lab_top.proofs.ByNumber.{next-cut-from_zero, next-from_zero}
use Rattle.lab_top.proofs.lint.LintRun.write_pairs.Goals as goal

pub loop-rule-init : goal.loop-rule-init
loop-rule-init g c = told-empty _ _ tt

pub loop-rule-preserved : goal.loop-rule-preserved
loop-rule-preserved g c =
    let it = c.args.self.now in
    next-from_zero (pairs_of it.lowered.checked it.places (order_of it.findings)) c.loop-rule.rule _ _ _ _ _ _ _ _
    c.loop-rule.invariant c.in_ok-write_part.ensures

pub returns-in_err-write_part : goal.returns-in_err-write_part
returns-in_err-write_part g c =
    let it = c.args.self.now in
    let p = err_from_is_err_and c.from_residual.result c.from_residual.ensures.1 in
    rw (p.1, p.2)
    (next-cut-from_zero (pairs_of it.lowered.checked it.places (order_of it.findings)) c.loop-rule.rule
    (length it.lowered.checked.rules) (omega arith) _ _ _ _ _ _ _ _ c.loop-rule.invariant c.in_err-write_part.ensures)

pub returns : goal.returns
returns g c =
    let it = c.args.self.now in
    let all : c.loop-rule.rule ≡ length it.lowered.checked.rules = omega arith in
    told-as _ _ _ _ (ap (pairs_to it.lowered.checked it.places (order_of it.findings)) all) c.loop-rule.invariant
