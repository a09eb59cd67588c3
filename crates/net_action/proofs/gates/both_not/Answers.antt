use Rattle.std.proofs.Common.{Bool, [], ap, ◌∙◌}
use Rattle.std.specs.Prelude.{◌&&◌}
use Rattle.net_action.specs.Wires.{is_up}
use Rattle.net_action.proofs.Growth.{grows_on, values_before, wire_kept}
use Rattle.net_action.proofs.gates.both_not.Goals as goal

pub both-requires-clause-a : goal.both-requires-clause-a
both-requires-clause-a c = wire_kept [] c.args.net.now c.opposite.new.net c.args.a 1 (c.opposite.ensures.grows []) c.requires.a

pub returns-in_err-wire-clause-grows : goal.returns-in_err-wire-clause-grows
returns-in_err-wire-clause-grows c inputs = grows_on inputs c.args.net.now c.opposite.new.net c.both.new.net (c.opposite.ensures.grows inputs) (c.both.ensures.grows inputs)

pub returns-clause-grows : goal.returns-clause-grows
returns-clause-grows c inputs = grows_on inputs c.args.net.now c.opposite.new.net c.both.new.net (c.opposite.ensures.grows inputs) (c.both.ensures.grows inputs)

pub returns-clause-up : goal.returns-clause-up
returns-clause-up c s values are =
    c.in_ok-wire.ensures.up s values are
    ∙ ap (λ (b : Bool). is_up values c.args.a && b) (c.in_ok-not_b.ensures.up s values (values_before s [] c.opposite.new.net c.both.new.net values (c.both.ensures.grows []) are))
