use Rattle.std.proofs.Common.{◌≡◌, ◌+◌, ◌-◌, arith}
use Rattle.net_action.proofs.Adding.{uext_is, uext_wire}
use Rattle.net_action.proofs.Growth.{wire_inside, wire_width}
use Rattle.net_action.proofs.operators.zext.Goals as goal

pub width-requires : goal.width-requires
width-requires c = wire_inside c.args.net.now c.args.x c.requires.wider.0 c.requires.wider.1

pub overflow_sub-more : goal.overflow_sub-more
overflow_sub-more c = omega (arith, c.width.ensures.width, wire_width c.args.net.now c.args.x c.requires.wider.0 c.requires.wider.1, c.requires.wider.2)

pub returns-clause-wire : goal.returns-clause-wire
returns-clause-wire c =
    let sum : c.requires.wider.0 + (c.args.to - c.width.result) ≡ c.args.to = omega (arith, c.width.ensures.width, wire_width c.args.net.now c.args.x c.requires.wider.0 c.requires.wider.1, c.requires.wider.2) in
    uext_wire c.args.net.now c.gate.new.net c.gate.ensures.grows c.in_ok-id.id c.args.x c.requires.wider.0 (c.args.to - c.width.result) c.args.to c.requires.wider.1 sum c.in_ok-id.ensures.wire

pub returns-clause-value : goal.returns-clause-value
returns-clause-value c =
    let sum : c.requires.wider.0 + (c.args.to - c.width.result) ≡ c.args.to = omega (arith, c.width.ensures.width, wire_width c.args.net.now c.args.x c.requires.wider.0 c.requires.wider.1, c.requires.wider.2) in
    uext_is c.args.net.now c.gate.new.net c.gate.ensures.grows c.in_ok-id.id c.args.x c.requires.wider.0 (c.args.to - c.width.result) c.args.to c.requires.wider.1 sum c.in_ok-id.ensures.at
