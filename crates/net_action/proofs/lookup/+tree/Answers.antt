use Rattle.std.proofs.Common.{ℕ, ◌+◌, ◌-◌, ◌*◌, ◌^◌, ◌≤◌, [], ap, sym, ◌∙◌, arith, rules}
use Rattle.std.specs.Prelude.{nat_eq, if◌then◌else◌}
use Rattle.kw_bits.specs.BitVector.{BitVector}
use Rattle.net_graph.specs.Values.{value_at}
use Rattle.net_action.specs.inner.Parts.{answer_to}
use Rattle.net_action.specs.Wires.{HasWire}
use Rattle.net_action.proofs.Answering.{bit_of, half_taken, lower_half, number_is, upper_half}
use Rattle.net_action.proofs.Growth.{grows_on, values_before, wire_kept}
use Rattle.net_action.proofs.lookup.+tree.Goals as goal

pub returns-then-level-eq0-clause-value : goal.returns-then-level-eq0-clause-value
returns-then-level-eq0-clause-value g t c s values are h =
    let wide = (values_before s [] c.args.net.now c.leaf.new.net values (c.leaf.ensures.grows []) are).fit c.args.x c.args.width c.requires.wire in
    c.in_ok-wire.ensures.value s values are
    ∙ ap (answer_to (g.E.Outside.kept c.args.question.now.externs.now) c.args.question.now.asked) (sym (number_is (value_at values c.args.x) c.args.level c.args.width c.args.high (omega (arith, c.if-level-eq0.true)) wide.1 h))

pub tree-requires : goal.tree-requires
tree-requires g t c κs within =
    let high : (2 * c.args.high + 1) * 2 ^ (c.args.level - 1) ≤ 2 ^ c.args.width = lower_half c.args.high c.args.level c.args.width (omega (arith, c.if-level-eq0.false)) c.requires.high in
    search rules

pub tree-requires-2 : goal.tree-requires-2
tree-requires-2 g t c κs within =
    let high : (2 * c.args.high + 1 + 1) * 2 ^ (c.args.level - 1) ≤ 2 ^ c.args.width = upper_half c.args.high c.args.level c.args.width (omega (arith, c.if-level-eq0.false)) c.requires.high in
    let wire : HasWire c.tree.new.net c.args.x c.args.width = wire_kept [] c.args.net.now c.tree.new.net c.args.x c.args.width (c.tree.ensures.grows []) c.requires.wire in
    search rules

pub returns-in_err-where_1-clause-grows : goal.returns-in_err-where_1-clause-grows
returns-in_err-where_1-clause-grows g t c inputs = (grows_on inputs c.args.net.now c.tree.new.net c.tree-2.new.net (c.tree.ensures.grows inputs) (c.tree-2.ensures.grows inputs))

pub slice-requires-clause-within : goal.slice-requires-clause-within
slice-requires-clause-within g t c = (c.args.width, wire_kept [] c.args.net.now c.tree-2.new.net c.args.x c.args.width (grows_on [] c.args.net.now c.tree.new.net c.tree-2.new.net (c.tree.ensures.grows []) (c.tree-2.ensures.grows [])) c.requires.wire, omega (arith, c.requires.level, c.if-level-eq0.false))

pub returns-in_err-bit-clause-grows : goal.returns-in_err-bit-clause-grows
returns-in_err-bit-clause-grows g t c inputs = (grows_on inputs c.args.net.now c.tree-2.new.net c.slice.new.net (grows_on inputs c.args.net.now c.tree.new.net c.tree-2.new.net (c.tree.ensures.grows inputs) (c.tree-2.ensures.grows inputs)) (c.slice.ensures.grows inputs))

pub choice-requires-clause-one_width : goal.choice-requires-clause-one_width
choice-requires-clause-one_width g t c = (
  c.requires.asked.0,
  wire_kept [] c.tree-2.new.net c.slice.new.net c.in_ok-where_1.where_1 c.requires.asked.0 (c.slice.ensures.grows []) (c.in_ok-where_1.ensures.wire c.requires.asked.0 c.requires.asked.1),
  wire_kept [] c.tree.new.net c.slice.new.net c.in_ok-where_0.where_0 c.requires.asked.0 (grows_on [] c.tree.new.net c.tree-2.new.net c.slice.new.net (c.tree-2.ensures.grows []) (c.slice.ensures.grows [])) (c.in_ok-where_0.ensures.wire c.requires.asked.0 c.requires.asked.1),
)

pub returns-in_err-wire-2-clause-grows : goal.returns-in_err-wire-2-clause-grows
returns-in_err-wire-2-clause-grows g t c inputs = (grows_on inputs c.args.net.now c.slice.new.net c.choice.new.net (grows_on inputs c.args.net.now c.tree-2.new.net c.slice.new.net (grows_on inputs c.args.net.now c.tree.new.net c.tree-2.new.net (c.tree.ensures.grows inputs) (c.tree-2.ensures.grows inputs)) (c.slice.ensures.grows inputs)) (c.choice.ensures.grows inputs))

pub returns-clause-grows : goal.returns-clause-grows
returns-clause-grows g t c inputs = (grows_on inputs c.args.net.now c.slice.new.net c.choice.new.net (grows_on inputs c.args.net.now c.tree-2.new.net c.slice.new.net (grows_on inputs c.args.net.now c.tree.new.net c.tree-2.new.net (c.tree.ensures.grows inputs) (c.tree-2.ensures.grows inputs)) (c.slice.ensures.grows inputs)) (c.choice.ensures.grows inputs))

pub returns-clause-wire : goal.returns-clause-wire
returns-clause-wire g t c out h = c.in_ok-wire-2.ensures.wire out (wire_kept [] c.tree-2.new.net c.slice.new.net c.in_ok-where_1.where_1 out (c.slice.ensures.grows []) (c.in_ok-where_1.ensures.wire out h))

pub returns-clause-value : goal.returns-clause-value
returns-clause-value g t c s values are h =
    let are3 = values_before s [] c.slice.new.net c.choice.new.net values (c.choice.ensures.grows []) are in
    let are2 = values_before s [] c.tree-2.new.net c.slice.new.net values (c.slice.ensures.grows []) are3 in
    let are1 = values_before s [] c.tree.new.net c.tree-2.new.net values (c.tree-2.ensures.grows []) are2 in
    let a1 = value_at values c.in_ok-where_1.where_1 in
    let a0 = value_at values c.in_ok-where_0.where_0 in
    let below = c.args.level - 1 in
    c.in_ok-wire-2.ensures.value s values are
    ∙ ap (λ (v : BitVector). if nat_eq v.number 1 then a1 else a0) (c.in_ok-bit.ensures.value s values are3)
    ∙ ap (λ (n : ℕ). if nat_eq n 1 then a1 else a0) (bit_of (value_at values c.args.x) below)
    ∙ half_taken (value_at values c.args.x).number c.args.level c.args.high a1 a0 (answer_to (g.E.Outside.kept c.args.question.now.externs.now) c.args.question.now.asked (value_at values c.args.x)) (omega (arith, c.if-level-eq0.false)) h
    (c.in_ok-where_1.ensures.value s values are2) (c.in_ok-where_0.ensures.value s values are1)
