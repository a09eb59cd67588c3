use Rattle.std.proofs.Common.{refl, arith}
use Rattle.typed_core.proofs.Paths.{once-tried, tried-once}
use Rattle.typed_core.proofs.schedule.tries_none_twice.Goals as goal

pub returns-then-most_times-gt1 : goal.returns-then-most_times-gt1
returns-then-most_times-gt1 c = (
  λ t. absurd cc,
  λ once.
      let worst = c.most_times.ensures.met (omega arith) in
      absurd (omega (arith, worst.2, once-tried c.args.nodes.now once c.loop-rule.rule worst.0 worst.1)),
)

pub returns : goal.returns
returns c =
    (λ t. tried-once c.args.nodes.now c.args.rules c.requires.nodes (λ rule within. c.loop-rule.invariant rule (omega arith)), λ once. refl)
