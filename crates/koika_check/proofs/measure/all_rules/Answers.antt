use Rattle.std.proofs.Common.{◌∙◌, get_or}
use Rattle.koika_check.specs.Capped as counts
use Rattle.koika_check.proofs.Steps.{count-counted, get_or-default}
use Rattle.koika_check.proofs.measure.all_rules.Goals as goal

pub loop-rule-preserved : goal.loop-rule-preserved
loop-rule-preserved c parts e =
    let rules = c.args.rules.now in
    let i = c.loop-rule.rule-index in
    let one = get_or rules i (counts.counted 0 0) in
    c.and-all.ensures ∙
    count-counted parts rules i c.loop-rule.all one e c.loop-rule-test.true (get_or-default rules i (counts.counted 0 0) one c.loop-rule-test.true) (c.loop-rule.invariant parts e)
