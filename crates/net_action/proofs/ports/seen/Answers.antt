use Rattle.std.proofs.Common.{ℕ, [], ap, sym, subst, ◌∙◌}
use Rattle.kw_bits.specs.BitVector.{BitVector}
use Rattle.net_graph.specs.Values.{value_at}
use Rattle.typed_core.specs.Alone.{seen}
use Rattle.typed_core.specs.Widths.{register_widths}
use Rattle.net_action.specs.Wires.{HasWire}
use Rattle.net_action.proofs.Growth.{grows_on, log_kept, values_before}
use Rattle.net_action.proofs.ports.seen.Goals as goal

pub value_below-requires-clause-start : goal.value_below-requires-clause-start
value_below-requires-clause-start c width h = subst (λ (w : ℕ). HasWire c.args.net.now w width) (sym c.start_of-start.ensures) (c.requires.ports.each_start c.args.register width h)

pub value_below-requires-2-clause-log : goal.value_below-requires-2-clause-log
value_below-requires-2-clause-log c = log_kept [] c.args.net.now c.value_below.new.net (register_widths c.args.design.now) c.args.run.now.log (c.value_below.ensures.grows []) c.requires.run

pub returns-in_err-value-clause-grows : goal.returns-in_err-value-clause-grows
returns-in_err-value-clause-grows c inputs = grows_on inputs c.args.net.now c.value_below.new.net c.value_below-2.new.net (c.value_below.ensures.grows inputs) (c.value_below-2.ensures.grows inputs)

pub returns-clause-grows : goal.returns-clause-grows
returns-clause-grows c inputs = grows_on inputs c.args.net.now c.value_below.new.net c.value_below-2.new.net (c.value_below.ensures.grows inputs) (c.value_below-2.ensures.grows inputs)

pub returns-clause-value : goal.returns-clause-value
returns-clause-value c s values events own regs are st so =
    let first = values_before s [] c.value_below.new.net c.value_below-2.new.net values (c.value_below-2.ensures.grows []) are in
    let start = ap (value_at values) c.start_of-start.ensures ∙ st.start c.args.register c.requires.register in
    c.in_ok-value.ensures.value s values own are so
    ∙ ap (λ (v : BitVector). seen c.args.port c.args.register own v) (c.in_ok-before.ensures.value s values events first st.log ∙ ap (λ (v : BitVector). seen c.args.port c.args.register events v) start)
