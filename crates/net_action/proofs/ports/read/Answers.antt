use Rattle.std.proofs.Common.{◌+◌, ◌*◌, ◌<◌, [], length, arith}
use Rattle.std.specs.Prelude.{slice_index_or}
use Rattle.std.proofs.lemmas.Option.{slice_get-get_or}
use Rattle.typed_core.specs.Widths.{register_widths}
use Rattle.net_action.specs.Wires.{is_up, wire_at}
use Rattle.net_action.proofs.Accesses.{marked, read_means, read_put}
use Rattle.net_action.proofs.Growth.{grows_on, log_kept, ports_kept, values_before, wire_kept}
use Rattle.net_action.proofs.ports.read.Goals as goal

pub both_not-requires-clause-a : goal.both_not-requires-clause-a
both_not-requires-clause-a c = wire_kept [] c.args.net.now c.refuses.new.net c.args.run.now.fires 1 (c.refuses.ensures.grows []) c.requires.run.fires

pub seen-requires-clause-ports : goal.seen-requires-clause-ports
seen-requires-clause-ports c = ports_kept [] c.args.net.now c.both_not.new.net (register_widths c.args.design.now) c.args.ports.now (grows_on [] c.args.net.now c.refuses.new.net c.both_not.new.net (c.refuses.ensures.grows []) (c.both_not.ensures.grows [])) c.requires.ports

pub seen-requires-clause-run : goal.seen-requires-clause-run
seen-requires-clause-run c = log_kept [] c.args.net.now c.both_not.new.net (register_widths c.args.design.now) c.args.run.now.log (grows_on [] c.args.net.now c.refuses.new.net c.both_not.new.net (c.refuses.ensures.grows []) (c.both_not.ensures.grows [])) c.requires.run.log

pub mark-requires-clause-flag : goal.mark-requires-clause-flag
mark-requires-clause-flag c = wire_kept [] c.args.net.now c.seen.new.net (wire_at c.args.run.now.log.was_read c.args.port c.args.register) 1 (grows_on [] c.args.net.now c.both_not.new.net c.seen.new.net (grows_on [] c.args.net.now c.refuses.new.net c.both_not.new.net (c.refuses.ensures.grows []) (c.both_not.ensures.grows [])) (c.seen.ensures.grows [])) (c.requires.run.log.each_read c.args.port c.args.register c.requires.port c.requires.register)

pub mark-requires-clause-runs : goal.mark-requires-clause-runs
mark-requires-clause-runs c = wire_kept [] c.both_not.new.net c.seen.new.net c.in_ok-fires.fires 1 (c.seen.ensures.grows []) c.in_ok-fires.ensures.wire

pub returns-in_err-fires-clause-grows : goal.returns-in_err-fires-clause-grows
returns-in_err-fires-clause-grows c inputs = (grows_on inputs c.args.net.now c.refuses.new.net c.both_not.new.net (c.refuses.ensures.grows inputs) (c.both_not.ensures.grows inputs))

pub returns-in_err-value-clause-grows : goal.returns-in_err-value-clause-grows
returns-in_err-value-clause-grows c inputs = (grows_on inputs c.args.net.now c.both_not.new.net c.seen.new.net (grows_on inputs c.args.net.now c.refuses.new.net c.both_not.new.net (c.refuses.ensures.grows inputs) (c.both_not.ensures.grows inputs)) (c.seen.ensures.grows inputs))

pub returns-in_err-mark-clause-grows : goal.returns-in_err-mark-clause-grows
returns-in_err-mark-clause-grows c inputs = (grows_on inputs c.args.net.now c.seen.new.net c.mark.new.net (grows_on inputs c.args.net.now c.both_not.new.net c.seen.new.net (grows_on inputs c.args.net.now c.refuses.new.net c.both_not.new.net (c.refuses.ensures.grows inputs) (c.both_not.ensures.grows inputs)) (c.seen.ensures.grows inputs)) (c.mark.ensures.grows inputs))

pub returns-clause-grows : goal.returns-clause-grows
returns-clause-grows c inputs = (grows_on inputs c.args.net.now c.seen.new.net c.mark.new.net (grows_on inputs c.args.net.now c.both_not.new.net c.seen.new.net (grows_on inputs c.args.net.now c.refuses.new.net c.both_not.new.net (c.refuses.ensures.grows inputs) (c.both_not.ensures.grows inputs)) (c.seen.ensures.grows inputs)) (c.mark.ensures.grows inputs))

pub returns-clause-running : goal.returns-clause-running
returns-clause-running c =
    let put = c.in_ok-mark.ensures.marks in
    record {
      fires = wire_kept [] c.both_not.new.net c.mark.new.net c.in_ok-fires.fires 1 (grows_on [] c.both_not.new.net c.seen.new.net c.mark.new.net (c.seen.ensures.grows []) (c.mark.ensures.grows [])) c.in_ok-fires.ensures.wire;
      log = read_put c.mark.new.net (register_widths c.args.design.now) c.args.run.now.log c.args.port c.args.register c.mark.new.flags put.0 c.requires.port c.requires.register (log_kept [] c.args.net.now c.mark.new.net (register_widths c.args.design.now) c.args.run.now.log (grows_on [] c.args.net.now c.seen.new.net c.mark.new.net (grows_on [] c.args.net.now c.both_not.new.net c.seen.new.net (grows_on [] c.args.net.now c.refuses.new.net c.both_not.new.net (c.refuses.ensures.grows []) (c.both_not.ensures.grows [])) (c.seen.ensures.grows [])) (c.mark.ensures.grows [])) c.requires.run.log) put.1 put.2;
    }

pub returns-clause-wire : goal.returns-clause-wire
returns-clause-wire c width h = wire_kept [] c.seen.new.net c.mark.new.net c.in_ok-value.value width (c.mark.ensures.grows []) (c.in_ok-value.ensures.wire width h)

pub returns-clause-means : goal.returns-clause-means
returns-clause-means c s values events regs are st =
    let put = c.in_ok-mark.ensures.marks in
    let are3 = values_before s [] c.seen.new.net c.mark.new.net values (c.mark.ensures.grows []) are in
    let are2 = values_before s [] c.both_not.new.net c.seen.new.net values (c.seen.ensures.grows []) are3 in
    let are1 = values_before s [] c.refuses.new.net c.both_not.new.net values (c.both_not.ensures.grows []) are2 in
    let is = slice_get-get_or (register_widths c.args.design.now) c.args.register 0 c.requires.register in
    let inside : 4 * c.args.register + c.args.port < length c.args.run.now.log.was_read = omega (arith, c.requires.run.log.was_read, c.requires.register, c.requires.port) in
    read_means (register_widths c.args.design.now) values c.args.port c.args.register (slice_index_or (register_widths c.args.design.now) c.args.register 0) c.requires.port is c.args.run.now events c.in_ok-fires.fires c.in_ok-value.value (are3.fit c.in_ok-value.value (slice_index_or (register_widths c.args.design.now) c.args.register 0) (c.in_ok-value.ensures.wire (slice_index_or (register_widths c.args.design.now) c.args.register 0) is)) (is_up values c.in_ok-refused.refused) (c.in_ok-fires.ensures.up s values are2)
    c.mark.new.flags (marked (register_widths c.args.design.now) values c.args.port c.args.register (slice_index_or (register_widths c.args.design.now) c.args.register 0) c.requires.port is c.args.run.now events c.in_ok-fires.fires c.args.run.now.log.was_read c.mark.new.flags put.0 put.1 inside (put.3 s values are))
    regs (c.in_ok-refused.ensures.up s values events are1 st.log) (λ own so. c.in_ok-value.ensures.value s values events own regs are3 st so)
