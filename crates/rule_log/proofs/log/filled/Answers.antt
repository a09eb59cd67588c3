use Rattle.std.proofs.Common.{length, ap, arith}
use Rattle.std.proofs.lemmas.List.{length-replicate}
use Rattle.rule_log.proofs.log.filled.Goals as goal

pub push-requires : goal.push-requires
push-requires g c =
    omega (arith, c.loop.invariant.capacity, ap length c.loop.invariant.items, length-replicate c.loop.counter c.args.item)
