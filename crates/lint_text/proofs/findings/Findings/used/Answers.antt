use Rattle.std.proofs.Common.{◌∙◌, Bool, ap, sym, arith}
use Rattle.std.specs.Prelude.{◌||◌}
use Rattle.lint_text.proofs.Marked.{uses_by}
use Rattle.lint_text.proofs.Ranges.{any_more}
use Rattle.lint_text.proofs.findings.Findings.used.Goals as goal

pub loop-rule-preserved : goal.loop-rule-preserved
loop-rule-preserved c =
    let d = c.args.design.now in
    let of = c.args.of in (
      c.mark_rule.ensures.count ∙ c.loop-rule.invariant.0,
      λ number within.
          c.mark_rule.ensures.marks number (omega (arith, within, c.loop-rule.invariant.0))
          ∙ ap (λ (b : Bool). b || uses_by d of number c.loop-rule.rule) (c.loop-rule.invariant.1 number within)
          ∙ sym (any_more (uses_by d of number) c.loop-rule.rule),
    )
