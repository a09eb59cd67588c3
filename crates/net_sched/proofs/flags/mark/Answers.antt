use Rattle.std.proofs.Common.{ℕ, List, [], length, sym, subst}
use Rattle.net_sched.specs.inner.Cycles.{AreFlags}
use Rattle.net_sched.proofs.Pushing.{flags_set}
use Rattle.net_sched.proofs.flags.mark.Goals as goal

pub returns-clause-flags : goal.returns-clause-flags
returns-clause-flags c =
    subst (λ (ws : List ℕ). AreFlags c.either.new.net (length c.args.flags.now) ws) (sym c.set.ensures)
    (flags_set c.args.net.now c.either.new.net c.args.flags.now c.args.place c.in_ok-flag.flag (length c.args.flags.now) (c.either.ensures.grows []) c.requires.flags c.in_ok-flag.ensures.wire)
