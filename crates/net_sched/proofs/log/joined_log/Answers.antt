use Rattle.std.proofs.Common.{◌≡◌, ◌*◌, [], length, subst}
use Rattle.typed_core.specs.Widths.{register_widths}
use Rattle.typed_core.specs.declared.design.Parts.{Parts}
use Rattle.typed_core.specs.declared.limits.TheConstants.{PORTS}
use Rattle.net_action.specs.Wires.{is_up}
use Rattle.net_action.proofs.Growth.{grows_on, log_kept, values_before, wire_kept}
use Rattle.net_sched.proofs.Joining.{both_join, both_wires, flags_by_place, one_width, places_of}
use Rattle.net_sched.proofs.Pushing.{flags_kept}
use Rattle.net_sched.proofs.log.joined_log.Goals as goal

pub joined_flags-requires-clause-sched : goal.joined_flags-requires-clause-sched
joined_flags-requires-clause-sched c = flags_by_place c.args.net.now (register_widths c.args.design.now) c.args.sched.now.was_read (PORTS * c.len.result) (places_of c.args.design.now c.len.result (subst (λ (d : Parts). c.len.result ≡ length d.regs) c.design.view_is c.len.ensures)) c.requires.sched.was_read c.requires.sched.each_read

pub joined_flags-requires-clause-rule : goal.joined_flags-requires-clause-rule
joined_flags-requires-clause-rule c = flags_by_place c.args.net.now (register_widths c.args.design.now) c.args.rule.now.was_read (PORTS * c.len.result) (places_of c.args.design.now c.len.result (subst (λ (d : Parts). c.len.result ≡ length d.regs) c.design.view_is c.len.ensures)) c.requires.rule.was_read c.requires.rule.each_read

pub joined_flags-requires-2-clause-sched : goal.joined_flags-requires-2-clause-sched
joined_flags-requires-2-clause-sched c =
    let are = log_kept [] c.args.net.now c.joined_flags.new.net (register_widths c.args.design.now) c.args.sched.now (c.joined_flags.ensures.grows []) c.requires.sched in
    flags_by_place c.joined_flags.new.net (register_widths c.args.design.now) c.args.sched.now.was_written (PORTS * c.len.result) (places_of c.args.design.now c.len.result (subst (λ (d : Parts). c.len.result ≡ length d.regs) c.design.view_is c.len.ensures)) are.was_written are.each_written

pub joined_flags-requires-2-clause-rule : goal.joined_flags-requires-2-clause-rule
joined_flags-requires-2-clause-rule c =
    let are = log_kept [] c.args.net.now c.joined_flags.new.net (register_widths c.args.design.now) c.args.rule.now (c.joined_flags.ensures.grows []) c.requires.rule in
    flags_by_place c.joined_flags.new.net (register_widths c.args.design.now) c.args.rule.now.was_written (PORTS * c.len.result) (places_of c.args.design.now c.len.result (subst (λ (d : Parts). c.len.result ≡ length d.regs) c.design.view_is c.len.ensures)) are.was_written are.each_written

pub joined_flags-requires-2-clause-fires : goal.joined_flags-requires-2-clause-fires
joined_flags-requires-2-clause-fires c = wire_kept [] c.args.net.now c.joined_flags.new.net c.args.fires 1 (c.joined_flags.ensures.grows []) c.requires.fires

pub returns-in_err-was_written-clause-grows : goal.returns-in_err-was_written-clause-grows
returns-in_err-was_written-clause-grows c inputs = grows_on inputs c.args.net.now c.joined_flags.new.net c.joined_flags-2.new.net (c.joined_flags.ensures.grows inputs) (c.joined_flags-2.ensures.grows inputs)

pub joined_values-requires-clause-flags : goal.joined_values-requires-clause-flags
joined_values-requires-clause-flags c =
    let grows = grows_on [] c.args.net.now c.joined_flags.new.net c.joined_flags-2.new.net (c.joined_flags.ensures.grows []) (c.joined_flags-2.ensures.grows []) in
    let are = log_kept [] c.args.net.now c.joined_flags-2.new.net (register_widths c.args.design.now) c.args.rule.now grows c.requires.rule in
    flags_by_place c.joined_flags-2.new.net (register_widths c.args.design.now) c.args.rule.now.was_written (PORTS * c.len.result) (places_of c.args.design.now c.len.result (subst (λ (d : Parts). c.len.result ≡ length d.regs) c.design.view_is c.len.ensures)) are.was_written are.each_written

pub joined_values-requires-clause-widths : goal.joined_values-requires-clause-widths
joined_values-requires-clause-widths c =
    let grows = grows_on [] c.args.net.now c.joined_flags.new.net c.joined_flags-2.new.net (c.joined_flags.ensures.grows []) (c.joined_flags-2.ensures.grows []) in
    one_width c.joined_flags-2.new.net (register_widths c.args.design.now) c.args.sched.now c.args.rule.now (PORTS * c.len.result) (places_of c.args.design.now c.len.result (subst (λ (d : Parts). c.len.result ≡ length d.regs) c.design.view_is c.len.ensures))
    (log_kept [] c.args.net.now c.joined_flags-2.new.net (register_widths c.args.design.now) c.args.sched.now grows c.requires.sched)
    (log_kept [] c.args.net.now c.joined_flags-2.new.net (register_widths c.args.design.now) c.args.rule.now grows c.requires.rule)

pub joined_values-requires-clause-fires : goal.joined_values-requires-clause-fires
joined_values-requires-clause-fires c = wire_kept [] c.joined_flags.new.net c.joined_flags-2.new.net c.args.fires 1 (c.joined_flags-2.ensures.grows []) (wire_kept [] c.args.net.now c.joined_flags.new.net c.args.fires 1 (c.joined_flags.ensures.grows []) c.requires.fires)

pub returns-in_err-values-clause-grows : goal.returns-in_err-values-clause-grows
returns-in_err-values-clause-grows c inputs =
    grows_on inputs c.args.net.now c.joined_flags.new.net c.joined_values.new.net (c.joined_flags.ensures.grows inputs)
    (grows_on inputs c.joined_flags.new.net c.joined_flags-2.new.net c.joined_values.new.net (c.joined_flags-2.ensures.grows inputs) (c.joined_values.ensures.grows inputs))

pub returns-clause-grows : goal.returns-clause-grows
returns-clause-grows c inputs =
    grows_on inputs c.args.net.now c.joined_flags.new.net c.joined_values.new.net (c.joined_flags.ensures.grows inputs)
    (grows_on inputs c.joined_flags.new.net c.joined_flags-2.new.net c.joined_values.new.net (c.joined_flags-2.ensures.grows inputs) (c.joined_values.ensures.grows inputs))

pub returns-clause-wires : goal.returns-clause-wires
returns-clause-wires c =
    let first = c.joined_flags.new.net in
    let second = c.joined_flags-2.new.net in
    let last = c.joined_values.new.net in
    let late = c.joined_values.ensures.grows [] in
    let before = log_kept [] first second (register_widths c.args.design.now) c.args.sched.now (c.joined_flags-2.ensures.grows []) (log_kept [] c.args.net.now first (register_widths c.args.design.now) c.args.sched.now (c.joined_flags.ensures.grows []) c.requires.sched) in
    both_wires (register_widths c.args.design.now) c.args.sched.now c.args.rule.now (PORTS * c.len.result) (places_of c.args.design.now c.len.result (subst (λ (d : Parts). c.len.result ≡ length d.regs) c.design.view_is c.len.ensures)) c.in_ok-was_read.was_read c.in_ok-was_written.was_written c.in_ok-values.values second last before
    (flags_kept [] first last c.in_ok-was_read.was_read _ (grows_on [] first second last (c.joined_flags-2.ensures.grows []) late) c.in_ok-was_read.ensures.flags)
    (flags_kept [] second last c.in_ok-was_written.was_written _ late c.in_ok-was_written.ensures.flags)
    c.in_ok-values.ensures.count c.in_ok-values.ensures.wires

pub returns-clause-joins : goal.returns-clause-joins
returns-clause-joins c s values are =
    let second = values_before s [] c.joined_flags-2.new.net c.joined_values.new.net values (c.joined_values.ensures.grows []) are in
    let first = values_before s [] c.joined_flags.new.net c.joined_flags-2.new.net values (c.joined_flags-2.ensures.grows []) second in
    both_join (register_widths c.args.design.now) c.args.sched.now c.args.rule.now (PORTS * c.len.result) (places_of c.args.design.now c.len.result (subst (λ (d : Parts). c.len.result ≡ length d.regs) c.design.view_is c.len.ensures)) c.in_ok-was_read.was_read c.in_ok-was_written.was_written c.in_ok-values.values values (is_up values c.args.fires)
    (c.in_ok-was_read.ensures.up s values first) (c.in_ok-was_written.ensures.up s values second) (c.in_ok-values.ensures.value s values are)
