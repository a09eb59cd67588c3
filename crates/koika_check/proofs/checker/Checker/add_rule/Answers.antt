use Rattle.std.proofs.Common.{ap, ◌∙◌}
use Rattle.koika_check.proofs.Added.{added-rule, declares-at}
use Rattle.koika_check.proofs.checker.Checker.add_rule.Goals as goal
use Rattle.koika_check.specs.inner.Things.{thing}
use Rattle.koika_check.specs.declared.things.Kind.TheVariants as kind

pub returns-clause-kept : goal.returns-clause-kept
returns-clause-kept c =
    rw (c.in_ok-push.ensures.ok, c.in_ok-push-2.ensures.ok)
    (added-rule c.args.self.now c.requires.settled c.args.rule c.args.name.now.text c.declare.new.self c.requires.name c.requires.new
    (declares-at c.args.self.now.things c.declare.new.self c.args.name.now.text c.as_slice.result.now _ _ c.as_slice.ensures (ap (thing kind.Rule) (c.in_ok-number.ensures.number ∙ c.len.ensures)) c.in_ok-declare.ensures.kept c.in_ok-declare.ensures.declares))
