use Rattle.std.proofs.Common.{Option, None, length, ap, arith}
use Rattle.std.proofs.lemmas.List.{length-replicate}
use Rattle.attempt_log.specs.declared.first.Commit.{Commit}
use Rattle.attempt_log.proofs.first.nothing.Goals as goal

pub push-requires : goal.push-requires
push-requires c =
    omega (arith, c.loop.invariant.capacity, ap length c.loop.invariant.items, length-replicate c.loop.counter (let o : Option Commit = None in o))
