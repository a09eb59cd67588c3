use Rattle.std.proofs.Common.{ℕ, ◌+◌, [], ap, ap₂, sym, subst, ◌∙◌, arith}
use Rattle.std.specs.Prelude.{slice_index_or, if◌then◌else◌}
use Rattle.std.proofs.lemmas.Option.{slice_get-get_or}
use Rattle.kw_bits.specs.BitVector.{BitVector}
use Rattle.net_graph.specs.Values.{value_at}
use Rattle.typed_core.specs.Widths.{register_widths}
use Rattle.rule_log.proofs.Telling.{seen_at_none}
use Rattle.net_action.specs.Wires.{HasWire, is_set, is_up, wire_at, written}
use Rattle.net_action.proofs.Accesses.{seen_next}
use Rattle.net_action.proofs.Growth.{grows_not, grows_on, values_before, wire_kept}
use Rattle.net_action.proofs.ports.value_below.Goals as goal

pub loop-at-init : goal.loop-at-init
loop-at-init c = record {
  grows = λ inputs. grows_not inputs c.args.net.now;
  wire = c.requires.start;
  value = λ s values events are stands. sym (seen_at_none c.args.register events (value_at values c.args.start));
}

pub choice-requires-clause-condition : goal.choice-requires-clause-condition
choice-requires-clause-condition c =
    subst (λ (w : ℕ). HasWire c.loop-at.net w 1) (sym c.wire_at-is_written.ensures) (wire_kept [] c.args.net.now c.loop-at.net (wire_at c.args.log.now.was_written c.loop-at.at c.args.register) 1 (c.loop-at.invariant.grows []) (c.requires.log.each_written c.loop-at.at c.args.register (omega arith) c.requires.register))

pub choice-requires-clause-one_width : goal.choice-requires-clause-one_width
choice-requires-clause-one_width c =
    let is = slice_get-get_or (register_widths c.args.design.now) c.args.register 0 c.requires.register in (
      slice_index_or (register_widths c.args.design.now) c.args.register 0,
      subst (λ (w : ℕ). HasWire c.loop-at.net w (slice_index_or (register_widths c.args.design.now) c.args.register 0)) (sym c.wire_at.ensures) (wire_kept [] c.args.net.now c.loop-at.net (wire_at c.args.log.now.values c.loop-at.at c.args.register) _ (c.loop-at.invariant.grows []) (c.requires.log.each_value c.loop-at.at c.args.register _ (omega arith) is)),
      c.loop-at.invariant.wire _ is,
    )

pub returns-in_err-value-clause-grows : goal.returns-in_err-value-clause-grows
returns-in_err-value-clause-grows c inputs = grows_on inputs c.args.net.now c.loop-at.net c.choice.new.net (c.loop-at.invariant.grows inputs) (c.choice.ensures.grows inputs)

pub loop-at-preserved : goal.loop-at-preserved
loop-at-preserved c = record {
  grows = λ inputs. grows_on inputs c.args.net.now c.loop-at.net c.choice.new.net (c.loop-at.invariant.grows inputs) (c.choice.ensures.grows inputs);
  wire = λ width h. c.in_ok-value.ensures.wire width (subst (λ (w : ℕ). HasWire c.loop-at.net w width) (sym c.wire_at.ensures) (wire_kept [] c.args.net.now c.loop-at.net (wire_at c.args.log.now.values c.loop-at.at c.args.register) width (c.loop-at.invariant.grows []) (c.requires.log.each_value c.loop-at.at c.args.register width (omega arith) h)));
  value = λ s values events are stands.
      let before = c.loop-at.invariant.value s values events (values_before s [] c.loop-at.net c.choice.new.net values (c.choice.ensures.grows []) are) stands in
      c.in_ok-value.ensures.value s values are
      ∙ ap₂ (λ (a b : ℕ). if is_up values a then value_at values b else value_at values c.loop-at.value) c.wire_at-is_written.ensures c.wire_at.ensures
      ∙ ap (λ (v : BitVector). if is_up values (wire_at c.args.log.now.was_written c.loop-at.at c.args.register) then value_at values (wire_at c.args.log.now.values c.loop-at.at c.args.register) else v) before
      ∙ sym (seen_next (register_widths c.args.design.now) (is_set values c.args.log.now) (written values c.args.log.now) events stands c.args.register c.requires.register c.loop-at.at (c.loop-at.at + 1) (value_at values c.args.start) (omega arith) (omega arith));
}
