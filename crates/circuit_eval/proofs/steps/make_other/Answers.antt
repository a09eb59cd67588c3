use Rattle.std.proofs.Common.{◌<◌, ◌≤◌, lit<, ap, ◌∙◌, arith}
use Rattle.std.proofs.Math.Nat.{pow-le-pow_right}
use Rattle.kw_bits.specs.BitVector.{BitVector}
use Rattle.kw_bits.specs.Laws.{HasWidth}
use Rattle.net_graph.specs.Values.{node_value, values_of}
use Rattle.circuit_eval.specs.Programs.{node_width}
use Rattle.circuit_eval.proofs.Keeping.{keep_wide, keep_word}
use Rattle.circuit_eval.proofs.Programs.{fits}
use Rattle.circuit_eval.proofs.steps.make_other.Goals as goal

pub overflow_cast-words : goal.overflow_cast-words
overflow_cast-words c =
    let own : HasWidth (node_value (record { inputs = c.args.sources.inputs.now; states = c.args.sources.states.now }) c.args.net.now c.args.id) (node_width c.args.net.now c.args.id) = fits (record { inputs = c.args.sources.inputs.now; states = c.args.sources.states.now }) c.args.net.now c.args.id c.requires.net c.requires.feeds c.requires.node in
    let narrow : c.value_by_step-value.result.width ≤ 64 = omega (arith, ap (λ (v : BitVector). v.width) c.value_by_step-value.ensures, own.1, c.width.ensures.width, c.if-width-le64.true) in
    omega (arith, c.number.ensures.number, c.number.ensures.bits.in_range, pow-le-pow_right {n = 2} (lit< tt) narrow)

pub returns-then-width-le64-clause-keeps : goal.returns-then-width-le64-clause-keeps
returns-then-width-le64-clause-keeps c =
    keep_word c.args.net.now c.args.words.now c.args.wides.now (values_of (record { inputs = c.args.sources.inputs.now; states = c.args.sources.states.now }) c.args.net.now) c.args.id c.requires.keeps c.number.result (omega (arith, c.requires.room.each, c.requires.node)) (fits (record { inputs = c.args.sources.inputs.now; states = c.args.sources.states.now }) c.args.net.now c.args.id c.requires.net c.requires.feeds c.requires.node)
    (omega (arith, c.width.ensures.width, c.if-width-le64.true)) (c.number.ensures.number ∙ ap (λ (v : BitVector). v.number) c.value_by_step-value.ensures)

pub returns-else-width-le64-clause-keeps : goal.returns-else-width-le64-clause-keeps
returns-else-width-le64-clause-keeps c =
    let wide : 64 < node_width c.args.net.now c.args.id = omega (arith, c.width.ensures.width, c.if-width-le64.false) in
    keep_wide c.args.net.now c.args.words.now c.args.wides.now (values_of (record { inputs = c.args.sources.inputs.now; states = c.args.sources.states.now }) c.args.net.now) c.args.id c.requires.keeps c.value_by_step-value.result (c.requires.room.wide c.args.id c.requires.node wide) (fits (record { inputs = c.args.sources.inputs.now; states = c.args.sources.states.now }) c.args.net.now c.args.id c.requires.net c.requires.feeds c.requires.node) wide c.value_by_step-value.ensures
