use Rattle.std.proofs.Common.{[]}
use Rattle.std.specs.Prelude.{slice_get}
use Rattle.typed_core.specs.Widths.{input_widths, register_widths}
use Rattle.one_rule.specs.Cycle.{environment}
use Rattle.one_rule.specs.PortRun.{port_run_if}
use Rattle.net_action.specs.Wires.{is_up}
use Rattle.net_action.proofs.Growth.{grows_on, log_kept, values_before, wire_kept}
use Rattle.net_sched.specs.declared.visit.NodeWires.{NodeWires}
use Rattle.net_sched.proofs.Joining.{follows, is_visit}
use Rattle.net_sched.proofs.visit.visit.Goals as goal

pub both-requires-clause-a : goal.both-requires-clause-a
both-requires-clause-a c = wire_kept (input_widths c.args.context.now.design.now) c.args.net.now c.rule_net.new.net c.args.is_visited 1 c.rule_net.ensures.grows c.requires.is_visited

pub returns-in_err-fires-clause-grows : goal.returns-in_err-fires-clause-grows
returns-in_err-fires-clause-grows c = grows_on (input_widths c.args.context.now.design.now) c.args.net.now c.rule_net.new.net c.both.new.net c.rule_net.ensures.grows (c.both.ensures.grows (input_widths c.args.context.now.design.now))

pub both_not-requires-clause-a : goal.both_not-requires-clause-a
both_not-requires-clause-a c =
    wire_kept [] c.rule_net.new.net c.both.new.net c.args.is_visited 1 (c.both.ensures.grows []) (wire_kept (input_widths c.args.context.now.design.now) c.args.net.now c.rule_net.new.net c.args.is_visited 1 c.rule_net.ensures.grows c.requires.is_visited)

pub both_not-requires-clause-b : goal.both_not-requires-clause-b
both_not-requires-clause-b c = wire_kept [] c.rule_net.new.net c.both.new.net c.in_ok-tried.tried.fires 1 (c.both.ensures.grows []) c.in_ok-tried.ensures.fires

pub returns-in_err-fails-clause-grows : goal.returns-in_err-fails-clause-grows
returns-in_err-fails-clause-grows c =
    let widths = input_widths c.args.context.now.design.now in
    grows_on widths c.args.net.now c.rule_net.new.net c.both_not.new.net c.rule_net.ensures.grows
    (grows_on widths c.rule_net.new.net c.both.new.net c.both_not.new.net (c.both.ensures.grows widths) (c.both_not.ensures.grows widths))

pub joined_log-requires-clause-sched : goal.joined_log-requires-clause-sched
joined_log-requires-clause-sched c =
    let widths = register_widths c.args.context.now.design.now in
    log_kept [] c.rule_net.new.net c.both_not.new.net widths c.args.ports.now.log (grows_on [] c.rule_net.new.net c.both.new.net c.both_not.new.net (c.both.ensures.grows []) (c.both_not.ensures.grows []))
    (log_kept (input_widths c.args.context.now.design.now) c.args.net.now c.rule_net.new.net widths c.args.ports.now.log c.rule_net.ensures.grows c.requires.ports.log)

pub joined_log-requires-clause-rule : goal.joined_log-requires-clause-rule
joined_log-requires-clause-rule c =
    log_kept [] c.rule_net.new.net c.both_not.new.net (register_widths c.args.context.now.design.now) c.in_ok-tried.tried.log (grows_on [] c.rule_net.new.net c.both.new.net c.both_not.new.net (c.both.ensures.grows []) (c.both_not.ensures.grows [])) c.in_ok-tried.ensures.log

pub joined_log-requires-clause-fires : goal.joined_log-requires-clause-fires
joined_log-requires-clause-fires c = wire_kept [] c.both.new.net c.both_not.new.net c.in_ok-fires.fires 1 (c.both_not.ensures.grows []) c.in_ok-fires.ensures.wire

pub returns-in_err-log-clause-grows : goal.returns-in_err-log-clause-grows
returns-in_err-log-clause-grows c =
    let widths = input_widths c.args.context.now.design.now in
    grows_on widths c.args.net.now c.rule_net.new.net c.joined_log.new.net c.rule_net.ensures.grows
    (grows_on widths c.rule_net.new.net c.both_not.new.net c.joined_log.new.net (grows_on widths c.rule_net.new.net c.both.new.net c.both_not.new.net (c.both.ensures.grows widths) (c.both_not.ensures.grows widths)) (c.joined_log.ensures.grows widths))

pub returns-clause-grows : goal.returns-clause-grows
returns-clause-grows c =
    let widths = input_widths c.args.context.now.design.now in
    grows_on widths c.args.net.now c.rule_net.new.net c.joined_log.new.net c.rule_net.ensures.grows
    (grows_on widths c.rule_net.new.net c.both_not.new.net c.joined_log.new.net (grows_on widths c.rule_net.new.net c.both.new.net c.both_not.new.net (c.both.ensures.grows widths) (c.both_not.ensures.grows widths)) (c.joined_log.ensures.grows widths))

pub returns-clause-fires : goal.returns-clause-fires
returns-clause-fires c =
    wire_kept [] c.both.new.net c.joined_log.new.net c.in_ok-fires.fires 1 (grows_on [] c.both.new.net c.both_not.new.net c.joined_log.new.net (c.both_not.ensures.grows []) (c.joined_log.ensures.grows [])) c.in_ok-fires.ensures.wire

pub returns-clause-fails : goal.returns-clause-fails
returns-clause-fails c = wire_kept [] c.both_not.new.net c.joined_log.new.net c.in_ok-fails.fails 1 (c.joined_log.ensures.grows []) c.in_ok-fails.ensures.wire

pub returns-clause-visit : goal.returns-clause-visit
returns-clause-visit c s values regs state are ports =
    let third = values_before s [] c.both_not.new.net c.joined_log.new.net values (c.joined_log.ensures.grows []) are in
    let second = values_before s [] c.both.new.net c.both_not.new.net values (c.both_not.ensures.grows []) third in
    let first = values_before s [] c.rule_net.new.net c.both.new.net values (c.both.ensures.grows []) second in
    let design = c.args.context.now.design.now in
    let found = slice_get design.rules c.args.rule in
    let run = port_run_if (environment design s.inputs) state.log regs found in
    let made : NodeWires = record { fires = c.in_ok-fires.fires; fails = c.in_ok-fails.fails; log = c.in_ok-log.log } in
    is_visit (register_widths design) values c.args.ports.now.log c.in_ok-tried.tried made (c.in_ok-log.ensures.joins s values are) (is_up values c.args.is_visited) c.args.rule state run.events run.ending
    (c.in_ok-fires.ensures.up s values second) (c.in_ok-fails.ensures.up s values third) ports.log (c.in_ok-tried.ensures.run s values state.log regs first ports) (follows (environment design s.inputs) state.log regs found)
