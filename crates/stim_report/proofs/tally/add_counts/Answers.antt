use Rattle.std.proofs.Common.{arith}
use Rattle.std.proofs.lemmas.Grind.{elements}
use Rattle.stim_report.proofs.tally.add_counts.Goals as goal

pub overflow_add-index_mut : goal.overflow_add-index_mut
overflow_add-index_mut c =
    grind (arith, elements, c.requires.no_more c.loop-rule.rule, c.loop-rule.invariant.left c.loop-rule.rule, c.fired_count-more.ensures.most)
