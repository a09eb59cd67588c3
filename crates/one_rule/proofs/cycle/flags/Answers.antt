use Rattle.std.proofs.Common.{length, ap, ◌∙◌, arith}
use Rattle.std.proofs.lemmas.List.FromFn.{length-map-range_with_len}
use Rattle.one_rule.specs.Cycle.{is_among, numbers}
use Rattle.one_rule.proofs.cycle.flags.Goals as goal

pub returns-clause-count : goal.returns-clause-count
returns-clause-count c =
    ap length c.loop-rule.invariant ∙ length-map-range_with_len (is_among (numbers c.args.past.now)) 0 c.loop-rule.rule ∙ omega arith
