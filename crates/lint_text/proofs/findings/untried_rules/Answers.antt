use Rattle.std.proofs.Common.{◌≡◌, true, ℕ, List, length, sym, subst, arith}
use Rattle.typed_core.specs.Paths.{Ascends}
use Rattle.typed_core.specs.declared.design.Node.{Node}
use Rattle.lint_text.proofs.Orders.{SaysUntried, UntriedTo, ascends, such-more, such-none, untried-all}
use Rattle.lint_text.proofs.findings.untried_rules.Goals as goal

pub may_be_untried-requires : goal.may_be_untried-requires
may_be_untried-requires c =
    let d = c.args.design.now in
    subst Ascends (sym c.as_slice.ensures) (ascends (length d.rules) d.nodes c.requires.nodes)

pub loop-rule-init : goal.loop-rule-init
loop-rule-init c = subst (UntriedTo c.args.design.now.nodes 0) (sym c.new-flags.ensures) (such-none (SaysUntried c.args.design.now.nodes) true)

pub loop-rule-preserved : goal.loop-rule-preserved
loop-rule-preserved c =
    let nodes = c.args.design.now.nodes in
    let n = c.loop-rule.rule in
    such-more (SaysUntried nodes) true n c.loop-rule.flags _ _ c.loop-rule.invariant c.in_ok-push.ensures.ok
    (subst (λ (ns : List Node). SaysUntried ns n c.in_ok-may_be_untried.field-0) c.as_slice.ensures c.in_ok-may_be_untried.ensures)

pub returns : goal.returns
returns c =
    let d = c.args.design.now in
    let whole : c.loop-rule.rule ≡ length d.rules = omega (arith, c.loop-rule-test.false, c.loop-rule.auto.rule-end, c.len-rule-end.ensures) in
    untried-all (length d.rules) d.nodes c.loop-rule.flags c.requires.nodes (subst (λ (k : ℕ). UntriedTo d.nodes k c.loop-rule.flags) whole c.loop-rule.invariant)
