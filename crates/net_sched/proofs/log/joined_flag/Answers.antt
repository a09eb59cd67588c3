use Rattle.std.proofs.Common.{[], ap, ◌∙◌, Bool}
use Rattle.std.specs.Prelude.{◌||◌}
use Rattle.net_action.specs.Wires.{is_up}
use Rattle.net_action.proofs.Growth.{grows_on, values_before, wire_kept}
use Rattle.net_sched.proofs.log.joined_flag.Goals as goal

pub either-requires-clause-a : goal.either-requires-clause-a
either-requires-clause-a c = wire_kept [] c.args.net.now c.both.new.net c.args.sched 1 (c.both.ensures.grows []) c.requires.sched

pub returns-in_err-flag-clause-grows : goal.returns-in_err-flag-clause-grows
returns-in_err-flag-clause-grows c inputs = grows_on inputs c.args.net.now c.both.new.net c.either.new.net (c.both.ensures.grows inputs) (c.either.ensures.grows inputs)

pub returns-clause-grows : goal.returns-clause-grows
returns-clause-grows c inputs = grows_on inputs c.args.net.now c.both.new.net c.either.new.net (c.both.ensures.grows inputs) (c.either.ensures.grows inputs)

pub returns-clause-up : goal.returns-clause-up
returns-clause-up c s values are =
    c.in_ok-flag.ensures.up s values are
    ∙ ap (λ (b : Bool). is_up values c.args.sched || b) (c.in_ok-noted.ensures.up s values (values_before s [] c.both.new.net c.either.new.net values (c.either.ensures.grows []) are))
