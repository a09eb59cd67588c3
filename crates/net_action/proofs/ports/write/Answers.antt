use Rattle.std.proofs.Common.{◌+◌, ◌*◌, ◌<◌, [], length, arith}
use Rattle.std.proofs.lemmas.Option.{slice_get_within}
use Rattle.typed_core.specs.Widths.{register_widths}
use Rattle.net_action.specs.Wires.{is_up, wire_at}
use Rattle.net_action.proofs.Accesses.{kept_where, marked, write_means, write_put}
use Rattle.net_action.proofs.Growth.{grows_on, log_kept, values_before, wire_kept}
use Rattle.net_action.proofs.ports.write.Goals as goal

pub refuses_write-requires-clause-register : goal.refuses_write-requires-clause-register
refuses_write-requires-clause-register c = (slice_get_within (register_widths c.args.design.now) c.args.target.register c.requires.value.0 c.requires.value.1)

pub both_not-requires-clause-a : goal.both_not-requires-clause-a
both_not-requires-clause-a c = wire_kept [] c.args.net.now c.refuses_write.new.net c.args.run.now.fires 1 (c.refuses_write.ensures.grows []) c.requires.run.fires

pub keep-requires-clause-within : goal.keep-requires-clause-within
keep-requires-clause-within c = omega (arith, c.requires.run.log.values, (slice_get_within (register_widths c.args.design.now) c.args.target.register c.requires.value.0 c.requires.value.1), c.requires.port)

pub keep-requires-clause-value : goal.keep-requires-clause-value
keep-requires-clause-value c = (
  c.requires.value.0,
  wire_kept [] c.args.net.now c.both_not.new.net c.args.value c.requires.value.0 (grows_on [] c.args.net.now c.refuses_write.new.net c.both_not.new.net (c.refuses_write.ensures.grows []) (c.both_not.ensures.grows [])) c.requires.value.2,
  wire_kept [] c.args.net.now c.both_not.new.net (wire_at c.args.run.now.log.values c.args.target.port c.args.target.register) c.requires.value.0 (grows_on [] c.args.net.now c.refuses_write.new.net c.both_not.new.net (c.refuses_write.ensures.grows []) (c.both_not.ensures.grows [])) (c.requires.run.log.each_value c.args.target.port c.args.target.register c.requires.value.0 c.requires.port c.requires.value.1),
)

pub mark-requires-clause-within : goal.mark-requires-clause-within
mark-requires-clause-within c = omega (arith, c.requires.run.log.was_written, (slice_get_within (register_widths c.args.design.now) c.args.target.register c.requires.value.0 c.requires.value.1), c.requires.port)

pub mark-requires-clause-flag : goal.mark-requires-clause-flag
mark-requires-clause-flag c = wire_kept [] c.args.net.now c.keep.new.net (wire_at c.args.run.now.log.was_written c.args.target.port c.args.target.register) 1 (grows_on [] c.args.net.now c.both_not.new.net c.keep.new.net (grows_on [] c.args.net.now c.refuses_write.new.net c.both_not.new.net (c.refuses_write.ensures.grows []) (c.both_not.ensures.grows [])) (c.keep.ensures.grows [])) (c.requires.run.log.each_written c.args.target.port c.args.target.register c.requires.port (slice_get_within (register_widths c.args.design.now) c.args.target.register c.requires.value.0 c.requires.value.1))

pub mark-requires-clause-runs : goal.mark-requires-clause-runs
mark-requires-clause-runs c = wire_kept [] c.both_not.new.net c.keep.new.net c.in_ok-fires.fires 1 (c.keep.ensures.grows []) c.in_ok-fires.ensures.wire

pub returns-in_err-fires-clause-grows : goal.returns-in_err-fires-clause-grows
returns-in_err-fires-clause-grows c inputs = (grows_on inputs c.args.net.now c.refuses_write.new.net c.both_not.new.net (c.refuses_write.ensures.grows inputs) (c.both_not.ensures.grows inputs))

pub returns-in_err-keep-clause-grows : goal.returns-in_err-keep-clause-grows
returns-in_err-keep-clause-grows c inputs = (grows_on inputs c.args.net.now c.both_not.new.net c.keep.new.net (grows_on inputs c.args.net.now c.refuses_write.new.net c.both_not.new.net (c.refuses_write.ensures.grows inputs) (c.both_not.ensures.grows inputs)) (c.keep.ensures.grows inputs))

pub returns-in_err-mark-clause-grows : goal.returns-in_err-mark-clause-grows
returns-in_err-mark-clause-grows c inputs = (grows_on inputs c.args.net.now c.keep.new.net c.mark.new.net (grows_on inputs c.args.net.now c.both_not.new.net c.keep.new.net (grows_on inputs c.args.net.now c.refuses_write.new.net c.both_not.new.net (c.refuses_write.ensures.grows inputs) (c.both_not.ensures.grows inputs)) (c.keep.ensures.grows inputs)) (c.mark.ensures.grows inputs))

pub returns-clause-grows : goal.returns-clause-grows
returns-clause-grows c inputs = (grows_on inputs c.args.net.now c.keep.new.net c.mark.new.net (grows_on inputs c.args.net.now c.both_not.new.net c.keep.new.net (grows_on inputs c.args.net.now c.refuses_write.new.net c.both_not.new.net (c.refuses_write.ensures.grows inputs) (c.both_not.ensures.grows inputs)) (c.keep.ensures.grows inputs)) (c.mark.ensures.grows inputs))

pub returns-clause-running : goal.returns-clause-running
returns-clause-running c =
    let put = c.in_ok-mark.ensures.marks in
    let kept = c.in_ok-keep.ensures.keeps in
    record {
      fires = wire_kept [] c.both_not.new.net c.mark.new.net c.in_ok-fires.fires 1 (grows_on [] c.both_not.new.net c.keep.new.net c.mark.new.net (c.keep.ensures.grows []) (c.mark.ensures.grows [])) c.in_ok-fires.ensures.wire;
      log = write_put c.mark.new.net (register_widths c.args.design.now) c.args.run.now.log c.args.target.port c.args.target.register c.requires.value.0 c.mark.new.flags c.keep.new.values put.0 kept.0 c.requires.port c.requires.value.1 (log_kept [] c.args.net.now c.mark.new.net (register_widths c.args.design.now) c.args.run.now.log (grows_on [] c.args.net.now c.keep.new.net c.mark.new.net (grows_on [] c.args.net.now c.both_not.new.net c.keep.new.net (grows_on [] c.args.net.now c.refuses_write.new.net c.both_not.new.net (c.refuses_write.ensures.grows []) (c.both_not.ensures.grows [])) (c.keep.ensures.grows [])) (c.mark.ensures.grows [])) c.requires.run.log) put.1 put.2
          kept.1 (wire_kept [] c.keep.new.net c.mark.new.net kept.0 c.requires.value.0 (c.mark.ensures.grows []) (kept.2 c.requires.value.0 (wire_kept [] c.args.net.now c.both_not.new.net c.args.value c.requires.value.0 (grows_on [] c.args.net.now c.refuses_write.new.net c.both_not.new.net (c.refuses_write.ensures.grows []) (c.both_not.ensures.grows [])) c.requires.value.2)));
    }

pub returns-clause-means : goal.returns-clause-means
returns-clause-means c s values events regs are st =
    let put = c.in_ok-mark.ensures.marks in
    let kept = c.in_ok-keep.ensures.keeps in
    let are3 = values_before s [] c.keep.new.net c.mark.new.net values (c.mark.ensures.grows []) are in
    let are2 = values_before s [] c.both_not.new.net c.keep.new.net values (c.keep.ensures.grows []) are3 in
    let are1 = values_before s [] c.refuses_write.new.net c.both_not.new.net values (c.both_not.ensures.grows []) are2 in
    let are0 = values_before s [] c.args.net.now c.refuses_write.new.net values (c.refuses_write.ensures.grows []) are1 in
    let inside : 4 * c.args.target.register + c.args.target.port < length c.args.run.now.log.was_written = omega (arith, c.requires.run.log.was_written, (slice_get_within (register_widths c.args.design.now) c.args.target.register c.requires.value.0 c.requires.value.1), c.requires.port) in
    let inside' : 4 * c.args.target.register + c.args.target.port < length c.args.run.now.log.values = omega (arith, c.requires.run.log.values, (slice_get_within (register_widths c.args.design.now) c.args.target.register c.requires.value.0 c.requires.value.1), c.requires.port) in
    write_means (register_widths c.args.design.now) values c.args.target.port c.args.target.register c.requires.value.0 c.requires.port c.requires.value.1 c.args.run.now events c.in_ok-fires.fires c.args.value (are0.fit c.args.value c.requires.value.0 c.requires.value.2) (is_up values c.in_ok-refused.refused) (c.in_ok-fires.ensures.up s values are2)
    c.mark.new.flags c.keep.new.values
    (marked (register_widths c.args.design.now) values c.args.target.port c.args.target.register c.requires.value.0 c.requires.port c.requires.value.1 c.args.run.now events c.in_ok-fires.fires c.args.run.now.log.was_written c.mark.new.flags put.0 put.1 inside (put.3 s values are))
    (kept_where (register_widths c.args.design.now) values c.args.target.port c.args.target.register c.requires.value.0 c.requires.port c.requires.value.1 c.args.run.now events c.in_ok-fires.fires c.args.run.now.log.values c.keep.new.values kept.0 c.args.value kept.1 inside' (kept.3 s values are3))
    (λ own so. c.in_ok-refused.ensures.up s values events own are1 st.log so)
