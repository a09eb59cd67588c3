use Rattle.std.proofs.Common.{ℕ, ◌+◌, [], ap, ap₂, sym, subst, ◌∙◌, arith}
use Rattle.std.specs.Prelude.{if◌then◌else◌}
use Rattle.std.proofs.lemmas.Option.{slice_get-get_or}
use Rattle.kw_bits.specs.BitVector.{BitVector}
use Rattle.net_graph.specs.Values.{value_at}
use Rattle.typed_core.specs.Widths.{register_widths}
use Rattle.rule_log.proofs.Telling.{seen_at_none}
use Rattle.net_action.specs.Wires.{HasWire, is_set, is_up, wire_at, written}
use Rattle.net_action.proofs.Accesses.{seen_next}
use Rattle.net_action.proofs.Growth.{grows_not, grows_on, values_before, wire_kept}
use Rattle.net_sched.specs.inner.Cycles.{nth}
use Rattle.net_sched.proofs.registers.last_value.Goals as goal

pub loop-port-init : goal.loop-port-init
loop-port-init c = record {
  grows = λ inputs. grows_not inputs c.args.net.now;
  wire = c.requires.start;
  value = λ s values events are stands. sym (seen_at_none c.args.register events (value_at values c.args.start));
}

pub written_over-requires-clause-is_written : goal.written_over-requires-clause-is_written
written_over-requires-clause-is_written c =
    subst (λ (w : ℕ). HasWire c.loop-port.net w 1) (sym (c.nth-is_written.ensures ∙ ap (nth c.args.log.now.was_written) c.place.ensures))
    (wire_kept [] c.args.net.now c.loop-port.net (wire_at c.args.log.now.was_written c.loop-port.port c.args.register) 1 (c.loop-port.invariant.grows []) (c.requires.log.each_written c.loop-port.port c.args.register (omega arith) c.requires.register))

pub written_over-requires-clause-one_width : goal.written_over-requires-clause-one_width
written_over-requires-clause-one_width c =
    let width : ℕ = nth (register_widths c.args.design.now) c.args.register in (
      width,
      subst (λ (w : ℕ). HasWire c.loop-port.net w width) (sym (c.nth-written.ensures ∙ ap (nth c.args.log.now.values) c.place-in-loop-port.ensures))
          (wire_kept [] c.args.net.now c.loop-port.net (wire_at c.args.log.now.values c.loop-port.port c.args.register) width (c.loop-port.invariant.grows []) (c.requires.log.each_value c.loop-port.port c.args.register width (omega arith) (slice_get-get_or (register_widths c.args.design.now) c.args.register 0 c.requires.register))),
      c.loop-port.invariant.wire,
    )

pub returns-in_err-value-clause-grows : goal.returns-in_err-value-clause-grows
returns-in_err-value-clause-grows c inputs = grows_on inputs c.args.net.now c.loop-port.net c.written_over.new.net (c.loop-port.invariant.grows inputs) (c.written_over.ensures.grows inputs)

pub loop-port-preserved : goal.loop-port-preserved
loop-port-preserved c = record {
  grows = λ inputs. grows_on inputs c.args.net.now c.loop-port.net c.written_over.new.net (c.loop-port.invariant.grows inputs) (c.written_over.ensures.grows inputs);
  wire = c.in_ok-value.ensures.wire (nth (register_widths c.args.design.now) c.args.register) c.loop-port.invariant.wire;
  value = λ s values events are stands.
      let before = c.loop-port.invariant.value s values events (values_before s [] c.loop-port.net c.written_over.new.net values (c.written_over.ensures.grows []) are) stands in
      let flag : ℕ = wire_at c.args.log.now.was_written c.loop-port.port c.args.register in
      let last : ℕ = wire_at c.args.log.now.values c.loop-port.port c.args.register in
      c.in_ok-value.ensures.value s values are
      ∙ ap₂ (λ (a b : ℕ). if is_up values a then value_at values b else value_at values c.loop-port.value) (c.nth-is_written.ensures ∙ ap (nth c.args.log.now.was_written) c.place.ensures) (c.nth-written.ensures ∙ ap (nth c.args.log.now.values) c.place-in-loop-port.ensures)
      ∙ ap (λ (v : BitVector). if is_up values flag then value_at values last else v) before
      ∙ sym (seen_next (register_widths c.args.design.now) (is_set values c.args.log.now) (written values c.args.log.now) events stands c.args.register c.requires.register c.loop-port.port (c.loop-port.port + 1) (value_at values c.args.start) (omega arith) (omega arith));
}
