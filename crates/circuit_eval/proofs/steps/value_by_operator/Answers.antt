-- The value of a node by its operator, from what is kept of its operands.
use Rattle.std.proofs.Common.{◌≡◌, ℕ, List, [], ◌∷◌, sym, ap, subst, ◌∙◌, arith, lit<}
use Rattle.std.proofs.lemmas.List.{get_or_default}
use Rattle.kw_bits.specs.BitVector.{BitVector}
use Rattle.kw_bits.specs.Operators as op
use Rattle.net_graph.specs.Operators.{TakesTwo}
use Rattle.net_graph.specs.Values.{no_bits, op_value, value_at, values_of}
use Rattle.net_graph.specs.declared.node.NetOp.{NetOp}
use Rattle.net_graph.specs.declared.node.NetOp.TheVariants as variant
use Rattle.circuit_eval.specs.Programs.{Has, node_width}
use Rattle.circuit_eval.specs.inner.Programs.{KeepsAt}
use Rattle.circuit_eval.proofs.NodeWords.{input_there, state_there}
use Rattle.circuit_eval.proofs.Programs.{by_operator, here, of_ite, of_one, of_sext, of_slice, of_two, of_uext, passed, taken}
use Rattle.circuit_eval.proofs.steps.value_by_operator.Goals as goal

-- a value that is kept has its node's width
wide_as : (net : List NetOp) (words : List ℕ) (wides values : List BitVector) (a : ℕ) (x : BitVector) → KeepsAt net words wides values a → x ≡ value_at values a → x.width ≡ node_width net a
wide_as net words wides values a x kept same = ap (λ (v : BitVector). v.width) same ∙ kept.fits.1

pub node-requires-clause-node : goal.node-requires-clause-node
node-requires-clause-node c =
    let h : Has c.args.net.now c.args.id (variant.One c.in-One.operator c.in-One.a) = here c.args.net.now c.ops.result.now c.args.id c.index-ops-id.result (variant.One c.in-One.operator c.in-One.a) c.ops.ensures.ops c.requires.node c.index-ops-id.is c.in-One.is in
    (of_one c.args.net.now c.args.id c.in-One.a c.in-One.operator c.ops.ensures.net h).within

pub node-requires-clause-kept : goal.node-requires-clause-kept
node-requires-clause-kept c =
    let h : Has c.args.net.now c.args.id (variant.One c.in-One.operator c.in-One.a) = here c.args.net.now c.ops.result.now c.args.id c.index-ops-id.result (variant.One c.in-One.operator c.in-One.a) c.ops.ensures.ops c.requires.node c.index-ops-id.is c.in-One.is in
    ((values_of (record { inputs = c.args.sources.inputs.now; states = c.args.sources.states.now }) c.args.net.now), c.requires.keeps c.in-One.a ((of_one c.args.net.now c.args.id c.in-One.a c.in-One.operator c.ops.ensures.net h).before))

pub node-requires-in-Two-clause-node : goal.node-requires-in-Two-clause-node
node-requires-in-Two-clause-node c =
    let h : Has c.args.net.now c.args.id (variant.Two c.in-Two.operator c.in-Two.a c.in-Two.b) = here c.args.net.now c.ops.result.now c.args.id c.index-ops-id.result (variant.Two c.in-Two.operator c.in-Two.a c.in-Two.b) c.ops.ensures.ops c.requires.node c.index-ops-id.is c.in-Two.is in
    (of_two c.args.net.now c.args.id c.in-Two.a c.in-Two.b c.in-Two.operator c.ops.ensures.net h).first.within

pub node-requires-in-Two-clause-kept : goal.node-requires-in-Two-clause-kept
node-requires-in-Two-clause-kept c =
    let h : Has c.args.net.now c.args.id (variant.Two c.in-Two.operator c.in-Two.a c.in-Two.b) = here c.args.net.now c.ops.result.now c.args.id c.index-ops-id.result (variant.Two c.in-Two.operator c.in-Two.a c.in-Two.b) c.ops.ensures.ops c.requires.node c.index-ops-id.is c.in-Two.is in
    ((values_of (record { inputs = c.args.sources.inputs.now; states = c.args.sources.states.now }) c.args.net.now), c.requires.keeps c.in-Two.a ((of_two c.args.net.now c.args.id c.in-Two.a c.in-Two.b c.in-Two.operator c.ops.ensures.net h).first.before))

pub node-requires-in-Two-2-clause-node : goal.node-requires-in-Two-2-clause-node
node-requires-in-Two-2-clause-node c =
    let h : Has c.args.net.now c.args.id (variant.Two c.in-Two.operator c.in-Two.a c.in-Two.b) = here c.args.net.now c.ops.result.now c.args.id c.index-ops-id.result (variant.Two c.in-Two.operator c.in-Two.a c.in-Two.b) c.ops.ensures.ops c.requires.node c.index-ops-id.is c.in-Two.is in
    (of_two c.args.net.now c.args.id c.in-Two.a c.in-Two.b c.in-Two.operator c.ops.ensures.net h).second.within

pub node-requires-in-Two-2-clause-kept : goal.node-requires-in-Two-2-clause-kept
node-requires-in-Two-2-clause-kept c =
    let h : Has c.args.net.now c.args.id (variant.Two c.in-Two.operator c.in-Two.a c.in-Two.b) = here c.args.net.now c.ops.result.now c.args.id c.index-ops-id.result (variant.Two c.in-Two.operator c.in-Two.a c.in-Two.b) c.ops.ensures.ops c.requires.node c.index-ops-id.is c.in-Two.is in
    ((values_of (record { inputs = c.args.sources.inputs.now; states = c.args.sources.states.now }) c.args.net.now), c.requires.keeps c.in-Two.b ((of_two c.args.net.now c.args.id c.in-Two.a c.in-Two.b c.in-Two.operator c.ops.ensures.net h).second.before))

pub node-requires-in-Slice-clause-node : goal.node-requires-in-Slice-clause-node
node-requires-in-Slice-clause-node c =
    let h : Has c.args.net.now c.args.id (variant.Slice c.in-Slice.a c.in-Slice.upper c.in-Slice.lower) = here c.args.net.now c.ops.result.now c.args.id c.index-ops-id.result (variant.Slice c.in-Slice.a c.in-Slice.upper c.in-Slice.lower) c.ops.ensures.ops c.requires.node c.index-ops-id.is c.in-Slice.is in
    (of_slice c.args.net.now c.args.id c.in-Slice.a c.in-Slice.upper c.in-Slice.lower c.ops.ensures.net h).0.within

pub node-requires-in-Slice-clause-kept : goal.node-requires-in-Slice-clause-kept
node-requires-in-Slice-clause-kept c =
    let h : Has c.args.net.now c.args.id (variant.Slice c.in-Slice.a c.in-Slice.upper c.in-Slice.lower) = here c.args.net.now c.ops.result.now c.args.id c.index-ops-id.result (variant.Slice c.in-Slice.a c.in-Slice.upper c.in-Slice.lower) c.ops.ensures.ops c.requires.node c.index-ops-id.is c.in-Slice.is in
    ((values_of (record { inputs = c.args.sources.inputs.now; states = c.args.sources.states.now }) c.args.net.now), c.requires.keeps c.in-Slice.a ((of_slice c.args.net.now c.args.id c.in-Slice.a c.in-Slice.upper c.in-Slice.lower c.ops.ensures.net h).0.before))

pub node-requires-in-Uext-clause-node : goal.node-requires-in-Uext-clause-node
node-requires-in-Uext-clause-node c =
    let h : Has c.args.net.now c.args.id (variant.Uext c.in-Uext.a c.in-Uext.added) = here c.args.net.now c.ops.result.now c.args.id c.index-ops-id.result (variant.Uext c.in-Uext.a c.in-Uext.added) c.ops.ensures.ops c.requires.node c.index-ops-id.is c.in-Uext.is in
    (of_uext c.args.net.now c.args.id c.in-Uext.a c.in-Uext.added c.ops.ensures.net h).0.within

pub node-requires-in-Uext-clause-kept : goal.node-requires-in-Uext-clause-kept
node-requires-in-Uext-clause-kept c =
    let h : Has c.args.net.now c.args.id (variant.Uext c.in-Uext.a c.in-Uext.added) = here c.args.net.now c.ops.result.now c.args.id c.index-ops-id.result (variant.Uext c.in-Uext.a c.in-Uext.added) c.ops.ensures.ops c.requires.node c.index-ops-id.is c.in-Uext.is in
    ((values_of (record { inputs = c.args.sources.inputs.now; states = c.args.sources.states.now }) c.args.net.now), c.requires.keeps c.in-Uext.a ((of_uext c.args.net.now c.args.id c.in-Uext.a c.in-Uext.added c.ops.ensures.net h).0.before))

pub node-requires-in-Sext-clause-node : goal.node-requires-in-Sext-clause-node
node-requires-in-Sext-clause-node c =
    let h : Has c.args.net.now c.args.id (variant.Sext c.in-Sext.a c.in-Sext.added) = here c.args.net.now c.ops.result.now c.args.id c.index-ops-id.result (variant.Sext c.in-Sext.a c.in-Sext.added) c.ops.ensures.ops c.requires.node c.index-ops-id.is c.in-Sext.is in
    (of_sext c.args.net.now c.args.id c.in-Sext.a c.in-Sext.added c.ops.ensures.net h).0.within

pub node-requires-in-Sext-clause-kept : goal.node-requires-in-Sext-clause-kept
node-requires-in-Sext-clause-kept c =
    let h : Has c.args.net.now c.args.id (variant.Sext c.in-Sext.a c.in-Sext.added) = here c.args.net.now c.ops.result.now c.args.id c.index-ops-id.result (variant.Sext c.in-Sext.a c.in-Sext.added) c.ops.ensures.ops c.requires.node c.index-ops-id.is c.in-Sext.is in
    ((values_of (record { inputs = c.args.sources.inputs.now; states = c.args.sources.states.now }) c.args.net.now), c.requires.keeps c.in-Sext.a ((of_sext c.args.net.now c.args.id c.in-Sext.a c.in-Sext.added c.ops.ensures.net h).0.before))

pub value_of-requires-in-Two-clause-stands : goal.value_of-requires-in-Two-clause-stands
value_of-requires-in-Two-clause-stands c =
    let h : Has c.args.net.now c.args.id (variant.Two c.in-Two.operator c.in-Two.a c.in-Two.b) = here c.args.net.now c.ops.result.now c.args.id c.index-ops-id.result (variant.Two c.in-Two.operator c.in-Two.a c.in-Two.b) c.ops.ensures.ops c.requires.node c.index-ops-id.is c.in-Two.is in
    (lit< tt, lit< tt, subst (λ (v : ℕ). TakesTwo c.in-Two.operator c.node-in-Two.result.width v) (sym (wide_as c.args.net.now c.args.words.now c.args.wides.now (values_of (record { inputs = c.args.sources.inputs.now; states = c.args.sources.states.now }) c.args.net.now) c.in-Two.b c.node-in-Two-2.result (c.requires.keeps c.in-Two.b ((of_two c.args.net.now c.args.id c.in-Two.a c.in-Two.b c.in-Two.operator c.ops.ensures.net h).second.before)) (c.node-in-Two-2.ensures (values_of (record { inputs = c.args.sources.inputs.now; states = c.args.sources.states.now }) c.args.net.now) (c.requires.keeps c.in-Two.b ((of_two c.args.net.now c.args.id c.in-Two.a c.in-Two.b c.in-Two.operator c.ops.ensures.net h).second.before))))) (subst (λ (u : ℕ). TakesTwo c.in-Two.operator u (node_width c.args.net.now c.in-Two.b)) (sym (wide_as c.args.net.now c.args.words.now c.args.wides.now (values_of (record { inputs = c.args.sources.inputs.now; states = c.args.sources.states.now }) c.args.net.now) c.in-Two.a c.node-in-Two.result (c.requires.keeps c.in-Two.a ((of_two c.args.net.now c.args.id c.in-Two.a c.in-Two.b c.in-Two.operator c.ops.ensures.net h).first.before)) (c.node-in-Two.ensures (values_of (record { inputs = c.args.sources.inputs.now; states = c.args.sources.states.now }) c.args.net.now) (c.requires.keeps c.in-Two.a ((of_two c.args.net.now c.args.id c.in-Two.a c.in-Two.b c.in-Two.operator c.ops.ensures.net h).first.before))))) (of_two c.args.net.now c.args.id c.in-Two.a c.in-Two.b c.in-Two.operator c.ops.ensures.net h).takes))

pub value_of-requires-in-Uext-clause-stands : goal.value_of-requires-in-Uext-clause-stands
value_of-requires-in-Uext-clause-stands c =
    let h : Has c.args.net.now c.args.id (variant.Uext c.in-Uext.a c.in-Uext.added) = here c.args.net.now c.ops.result.now c.args.id c.index-ops-id.result (variant.Uext c.in-Uext.a c.in-Uext.added) c.ops.ensures.ops c.requires.node c.index-ops-id.is c.in-Uext.is in
    (lit< tt, omega (arith, (of_uext c.args.net.now c.args.id c.in-Uext.a c.in-Uext.added c.ops.ensures.net h).1, wide_as c.args.net.now c.args.words.now c.args.wides.now (values_of (record { inputs = c.args.sources.inputs.now; states = c.args.sources.states.now }) c.args.net.now) c.in-Uext.a c.node-in-Uext.result (c.requires.keeps c.in-Uext.a ((of_uext c.args.net.now c.args.id c.in-Uext.a c.in-Uext.added c.ops.ensures.net h).0.before)) (c.node-in-Uext.ensures (values_of (record { inputs = c.args.sources.inputs.now; states = c.args.sources.states.now }) c.args.net.now) (c.requires.keeps c.in-Uext.a ((of_uext c.args.net.now c.args.id c.in-Uext.a c.in-Uext.added c.ops.ensures.net h).0.before)))))

pub value_of-requires-in-Sext-clause-stands : goal.value_of-requires-in-Sext-clause-stands
value_of-requires-in-Sext-clause-stands c =
    let h : Has c.args.net.now c.args.id (variant.Sext c.in-Sext.a c.in-Sext.added) = here c.args.net.now c.ops.result.now c.args.id c.index-ops-id.result (variant.Sext c.in-Sext.a c.in-Sext.added) c.ops.ensures.ops c.requires.node c.index-ops-id.is c.in-Sext.is in
    (lit< tt, omega (arith, (of_sext c.args.net.now c.args.id c.in-Sext.a c.in-Sext.added c.ops.ensures.net h).1, wide_as c.args.net.now c.args.words.now c.args.wides.now (values_of (record { inputs = c.args.sources.inputs.now; states = c.args.sources.states.now }) c.args.net.now) c.in-Sext.a c.node-in-Sext.result (c.requires.keeps c.in-Sext.a ((of_sext c.args.net.now c.args.id c.in-Sext.a c.in-Sext.added c.ops.ensures.net h).0.before)) (c.node-in-Sext.ensures (values_of (record { inputs = c.args.sources.inputs.now; states = c.args.sources.states.now }) c.args.net.now) (c.requires.keeps c.in-Sext.a ((of_sext c.args.net.now c.args.id c.in-Sext.a c.in-Sext.added c.ops.ensures.net h).0.before)))))

pub returns-in-Const : goal.returns-in-Const
returns-in-Const c =
    let h : Has c.args.net.now c.args.id (variant.Const c.in-Const.value) = here c.args.net.now c.ops.result.now c.args.id c.index-ops-id.result (variant.Const c.in-Const.value) c.ops.ensures.ops c.requires.node c.index-ops-id.is c.in-Const.is in
    sym (by_operator (record { inputs = c.args.sources.inputs.now; states = c.args.sources.states.now }) c.args.net.now c.args.id (variant.Const c.in-Const.value) c.ops.ensures.net h)

pub returns-in-Input : goal.returns-in-Input
returns-in-Input c =
    let h : Has c.args.net.now c.args.id (variant.Input c.in-Input.number c.in-Input.field-1) = here c.args.net.now c.ops.result.now c.args.id c.index-ops-id.result (variant.Input c.in-Input.number c.in-Input.field-1) c.ops.ensures.ops c.requires.node c.index-ops-id.is c.in-Input.is in
    get_or_default c.args.sources.inputs.now c.in-Input.number c.index-sources-number.result no_bits (input_there (record { inputs = c.args.sources.inputs.now; states = c.args.sources.states.now }) c.args.net.now c.args.words.now c.args.wides.now c.args.id c.ops.ensures.net c.requires.feeds c.requires.keeps c.in-Input.number c.in-Input.field-1 h).0 ∙ sym (by_operator (record { inputs = c.args.sources.inputs.now; states = c.args.sources.states.now }) c.args.net.now c.args.id (variant.Input c.in-Input.number c.in-Input.field-1) c.ops.ensures.net h)

pub value-requires : goal.value-requires
value-requires c =
    let h : Has c.args.net.now c.args.id (variant.State c.in-State.number c.in-State.field-1) = here c.args.net.now c.ops.result.now c.args.id c.index-ops-id.result (variant.State c.in-State.number c.in-State.field-1) c.ops.ensures.ops c.requires.node c.index-ops-id.is c.in-State.is in
    (state_there (record { inputs = c.args.sources.inputs.now; states = c.args.sources.states.now }) c.args.net.now c.args.words.now c.args.wides.now c.args.id c.ops.ensures.net c.requires.feeds c.requires.keeps c.in-State.number c.in-State.field-1 h).0

pub returns-in-State : goal.returns-in-State
returns-in-State c =
    let h : Has c.args.net.now c.args.id (variant.State c.in-State.number c.in-State.field-1) = here c.args.net.now c.ops.result.now c.args.id c.index-ops-id.result (variant.State c.in-State.number c.in-State.field-1) c.ops.ensures.ops c.requires.node c.index-ops-id.is c.in-State.is in
    c.value.ensures ∙ sym (by_operator (record { inputs = c.args.sources.inputs.now; states = c.args.sources.states.now }) c.args.net.now c.args.id (variant.State c.in-State.number c.in-State.field-1) c.ops.ensures.net h)

pub returns-in-One : goal.returns-in-One
returns-in-One c =
    let h : Has c.args.net.now c.args.id (variant.One c.in-One.operator c.in-One.a) = here c.args.net.now c.ops.result.now c.args.id c.index-ops-id.result (variant.One c.in-One.operator c.in-One.a) c.ops.ensures.ops c.requires.node c.index-ops-id.is c.in-One.is in
    c.value_of.ensures ∙ ap (λ (x : BitVector). op_value (record { inputs = c.args.sources.inputs.now; states = c.args.sources.states.now }) (x ∷ []) (variant.One c.in-One.operator 0)) (c.node.ensures (values_of (record { inputs = c.args.sources.inputs.now; states = c.args.sources.states.now }) c.args.net.now) (c.requires.keeps c.in-One.a ((of_one c.args.net.now c.args.id c.in-One.a c.in-One.operator c.ops.ensures.net h).before))) ∙ sym (by_operator (record { inputs = c.args.sources.inputs.now; states = c.args.sources.states.now }) c.args.net.now c.args.id (variant.One c.in-One.operator c.in-One.a) c.ops.ensures.net h)

pub returns-in-Two : goal.returns-in-Two
returns-in-Two c =
    let h : Has c.args.net.now c.args.id (variant.Two c.in-Two.operator c.in-Two.a c.in-Two.b) = here c.args.net.now c.ops.result.now c.args.id c.index-ops-id.result (variant.Two c.in-Two.operator c.in-Two.a c.in-Two.b) c.ops.ensures.ops c.requires.node c.index-ops-id.is c.in-Two.is in
    c.value_of-in-Two.ensures ∙ ap (λ (x : BitVector). op_value (record { inputs = c.args.sources.inputs.now; states = c.args.sources.states.now }) (x ∷ c.node-in-Two-2.result ∷ []) (variant.Two c.in-Two.operator 0 1)) (c.node-in-Two.ensures (values_of (record { inputs = c.args.sources.inputs.now; states = c.args.sources.states.now }) c.args.net.now) (c.requires.keeps c.in-Two.a ((of_two c.args.net.now c.args.id c.in-Two.a c.in-Two.b c.in-Two.operator c.ops.ensures.net h).first.before))) ∙ ap (λ (x : BitVector). op_value (record { inputs = c.args.sources.inputs.now; states = c.args.sources.states.now }) ((value_at (values_of (record { inputs = c.args.sources.inputs.now; states = c.args.sources.states.now }) c.args.net.now) c.in-Two.a) ∷ x ∷ []) (variant.Two c.in-Two.operator 0 1)) (c.node-in-Two-2.ensures (values_of (record { inputs = c.args.sources.inputs.now; states = c.args.sources.states.now }) c.args.net.now) (c.requires.keeps c.in-Two.b ((of_two c.args.net.now c.args.id c.in-Two.a c.in-Two.b c.in-Two.operator c.ops.ensures.net h).second.before))) ∙ sym (by_operator (record { inputs = c.args.sources.inputs.now; states = c.args.sources.states.now }) c.args.net.now c.args.id (variant.Two c.in-Two.operator c.in-Two.a c.in-Two.b) c.ops.ensures.net h)

pub returns-in-Uext : goal.returns-in-Uext
returns-in-Uext c =
    let h : Has c.args.net.now c.args.id (variant.Uext c.in-Uext.a c.in-Uext.added) = here c.args.net.now c.ops.result.now c.args.id c.index-ops-id.result (variant.Uext c.in-Uext.a c.in-Uext.added) c.ops.ensures.ops c.requires.node c.index-ops-id.is c.in-Uext.is in
    c.value_of-in-Uext.ensures ∙ ap (λ (x : BitVector). op_value (record { inputs = c.args.sources.inputs.now; states = c.args.sources.states.now }) (x ∷ []) (variant.Uext 0 c.in-Uext.added)) (c.node-in-Uext.ensures (values_of (record { inputs = c.args.sources.inputs.now; states = c.args.sources.states.now }) c.args.net.now) (c.requires.keeps c.in-Uext.a ((of_uext c.args.net.now c.args.id c.in-Uext.a c.in-Uext.added c.ops.ensures.net h).0.before))) ∙ sym (by_operator (record { inputs = c.args.sources.inputs.now; states = c.args.sources.states.now }) c.args.net.now c.args.id (variant.Uext c.in-Uext.a c.in-Uext.added) c.ops.ensures.net h)

pub returns-in-Sext : goal.returns-in-Sext
returns-in-Sext c =
    let h : Has c.args.net.now c.args.id (variant.Sext c.in-Sext.a c.in-Sext.added) = here c.args.net.now c.ops.result.now c.args.id c.index-ops-id.result (variant.Sext c.in-Sext.a c.in-Sext.added) c.ops.ensures.ops c.requires.node c.index-ops-id.is c.in-Sext.is in
    c.value_of-in-Sext.ensures ∙ ap (λ (x : BitVector). op_value (record { inputs = c.args.sources.inputs.now; states = c.args.sources.states.now }) (x ∷ []) (variant.Sext 0 c.in-Sext.added)) (c.node-in-Sext.ensures (values_of (record { inputs = c.args.sources.inputs.now; states = c.args.sources.states.now }) c.args.net.now) (c.requires.keeps c.in-Sext.a ((of_sext c.args.net.now c.args.id c.in-Sext.a c.in-Sext.added c.ops.ensures.net h).0.before))) ∙ sym (by_operator (record { inputs = c.args.sources.inputs.now; states = c.args.sources.states.now }) c.args.net.now c.args.id (variant.Sext c.in-Sext.a c.in-Sext.added) c.ops.ensures.net h)

pub at-requires : goal.at-requires
at-requires c =
    let h : Has c.args.net.now c.args.id (variant.Ite c.in-Ite.condition c.in-Ite.a c.in-Ite.b) = here c.args.net.now c.ops.result.now c.args.id c.index-ops-id.result (variant.Ite c.in-Ite.condition c.in-Ite.a c.in-Ite.b) c.ops.ensures.ops c.requires.node c.index-ops-id.is c.in-Ite.is in
    let o = of_ite c.args.net.now c.args.id c.in-Ite.condition c.in-Ite.a c.in-Ite.b c.ops.ensures.net h in
    omega (arith, o.chooser.within, c.requires.room.each)

pub node-requires-then-at-eq1-clause-node : goal.node-requires-then-at-eq1-clause-node
node-requires-then-at-eq1-clause-node c =
    let h : Has c.args.net.now c.args.id (variant.Ite c.in-Ite.condition c.in-Ite.a c.in-Ite.b) = here c.args.net.now c.ops.result.now c.args.id c.index-ops-id.result (variant.Ite c.in-Ite.condition c.in-Ite.a c.in-Ite.b) c.ops.ensures.ops c.requires.node c.index-ops-id.is c.in-Ite.is in
    let o = of_ite c.args.net.now c.args.id c.in-Ite.condition c.in-Ite.a c.in-Ite.b c.ops.ensures.net h in
    o.first.within

pub node-requires-then-at-eq1-clause-kept : goal.node-requires-then-at-eq1-clause-kept
node-requires-then-at-eq1-clause-kept c =
    let h : Has c.args.net.now c.args.id (variant.Ite c.in-Ite.condition c.in-Ite.a c.in-Ite.b) = here c.args.net.now c.ops.result.now c.args.id c.index-ops-id.result (variant.Ite c.in-Ite.condition c.in-Ite.a c.in-Ite.b) c.ops.ensures.ops c.requires.node c.index-ops-id.is c.in-Ite.is in
    let o = of_ite c.args.net.now c.args.id c.in-Ite.condition c.in-Ite.a c.in-Ite.b c.ops.ensures.net h in
    ((values_of (record { inputs = c.args.sources.inputs.now; states = c.args.sources.states.now }) c.args.net.now), c.requires.keeps c.in-Ite.a o.first.before)

pub returns-then-at-eq1 : goal.returns-then-at-eq1
returns-then-at-eq1 c =
    let h : Has c.args.net.now c.args.id (variant.Ite c.in-Ite.condition c.in-Ite.a c.in-Ite.b) = here c.args.net.now c.ops.result.now c.args.id c.index-ops-id.result (variant.Ite c.in-Ite.condition c.in-Ite.a c.in-Ite.b) c.ops.ensures.ops c.requires.node c.index-ops-id.is c.in-Ite.is in
    let o = of_ite c.args.net.now c.args.id c.in-Ite.condition c.in-Ite.a c.in-Ite.b c.ops.ensures.net h in
    let chooser = c.requires.keeps c.in-Ite.condition o.chooser.before in
    let number : (value_at (values_of (record { inputs = c.args.sources.inputs.now; states = c.args.sources.states.now }) c.args.net.now) c.in-Ite.condition).number ≡ c.at.result = sym (c.at.ensures ∙ chooser.narrow (omega (arith, o.one_bit))) in
    c.node-then-at-eq1.ensures (values_of (record { inputs = c.args.sources.inputs.now; states = c.args.sources.states.now }) c.args.net.now) (c.requires.keeps c.in-Ite.a o.first.before) ∙ sym (by_operator (record { inputs = c.args.sources.inputs.now; states = c.args.sources.states.now }) c.args.net.now c.args.id (variant.Ite c.in-Ite.condition c.in-Ite.a c.in-Ite.b) c.ops.ensures.net h ∙ taken (value_at (values_of (record { inputs = c.args.sources.inputs.now; states = c.args.sources.states.now }) c.args.net.now) c.in-Ite.condition) (value_at (values_of (record { inputs = c.args.sources.inputs.now; states = c.args.sources.states.now }) c.args.net.now) c.in-Ite.a) (value_at (values_of (record { inputs = c.args.sources.inputs.now; states = c.args.sources.states.now }) c.args.net.now) c.in-Ite.b) (number ∙ c.if-at-eq1.true))

pub node-requires-else-at-eq1-clause-node : goal.node-requires-else-at-eq1-clause-node
node-requires-else-at-eq1-clause-node c =
    let h : Has c.args.net.now c.args.id (variant.Ite c.in-Ite.condition c.in-Ite.a c.in-Ite.b) = here c.args.net.now c.ops.result.now c.args.id c.index-ops-id.result (variant.Ite c.in-Ite.condition c.in-Ite.a c.in-Ite.b) c.ops.ensures.ops c.requires.node c.index-ops-id.is c.in-Ite.is in
    let o = of_ite c.args.net.now c.args.id c.in-Ite.condition c.in-Ite.a c.in-Ite.b c.ops.ensures.net h in
    o.second.within

pub node-requires-else-at-eq1-clause-kept : goal.node-requires-else-at-eq1-clause-kept
node-requires-else-at-eq1-clause-kept c =
    let h : Has c.args.net.now c.args.id (variant.Ite c.in-Ite.condition c.in-Ite.a c.in-Ite.b) = here c.args.net.now c.ops.result.now c.args.id c.index-ops-id.result (variant.Ite c.in-Ite.condition c.in-Ite.a c.in-Ite.b) c.ops.ensures.ops c.requires.node c.index-ops-id.is c.in-Ite.is in
    let o = of_ite c.args.net.now c.args.id c.in-Ite.condition c.in-Ite.a c.in-Ite.b c.ops.ensures.net h in
    ((values_of (record { inputs = c.args.sources.inputs.now; states = c.args.sources.states.now }) c.args.net.now), c.requires.keeps c.in-Ite.b o.second.before)

pub returns-else-at-eq1 : goal.returns-else-at-eq1
returns-else-at-eq1 c =
    let h : Has c.args.net.now c.args.id (variant.Ite c.in-Ite.condition c.in-Ite.a c.in-Ite.b) = here c.args.net.now c.ops.result.now c.args.id c.index-ops-id.result (variant.Ite c.in-Ite.condition c.in-Ite.a c.in-Ite.b) c.ops.ensures.ops c.requires.node c.index-ops-id.is c.in-Ite.is in
    let o = of_ite c.args.net.now c.args.id c.in-Ite.condition c.in-Ite.a c.in-Ite.b c.ops.ensures.net h in
    let chooser = c.requires.keeps c.in-Ite.condition o.chooser.before in
    let number : (value_at (values_of (record { inputs = c.args.sources.inputs.now; states = c.args.sources.states.now }) c.args.net.now) c.in-Ite.condition).number ≡ c.at.result = sym (c.at.ensures ∙ chooser.narrow (omega (arith, o.one_bit))) in
    c.node-else-at-eq1.ensures (values_of (record { inputs = c.args.sources.inputs.now; states = c.args.sources.states.now }) c.args.net.now) (c.requires.keeps c.in-Ite.b o.second.before) ∙ sym (by_operator (record { inputs = c.args.sources.inputs.now; states = c.args.sources.states.now }) c.args.net.now c.args.id (variant.Ite c.in-Ite.condition c.in-Ite.a c.in-Ite.b) c.ops.ensures.net h ∙ passed (value_at (values_of (record { inputs = c.args.sources.inputs.now; states = c.args.sources.states.now }) c.args.net.now) c.in-Ite.condition) (value_at (values_of (record { inputs = c.args.sources.inputs.now; states = c.args.sources.states.now }) c.args.net.now) c.in-Ite.a) (value_at (values_of (record { inputs = c.args.sources.inputs.now; states = c.args.sources.states.now }) c.args.net.now) c.in-Ite.b) (λ e. c.if-at-eq1.false (sym number ∙ e)))

pub slice-requires-clause-order : goal.slice-requires-clause-order
slice-requires-clause-order c =
    let h : Has c.args.net.now c.args.id (variant.Slice c.in-Slice.a c.in-Slice.upper c.in-Slice.lower) = here c.args.net.now c.ops.result.now c.args.id c.index-ops-id.result (variant.Slice c.in-Slice.a c.in-Slice.upper c.in-Slice.lower) c.ops.ensures.ops c.requires.node c.index-ops-id.is c.in-Slice.is in
    let o = of_slice c.args.net.now c.args.id c.in-Slice.a c.in-Slice.upper c.in-Slice.lower c.ops.ensures.net h in
    o.1

pub slice-requires-clause-within : goal.slice-requires-clause-within
slice-requires-clause-within c =
    let h : Has c.args.net.now c.args.id (variant.Slice c.in-Slice.a c.in-Slice.upper c.in-Slice.lower) = here c.args.net.now c.ops.result.now c.args.id c.index-ops-id.result (variant.Slice c.in-Slice.a c.in-Slice.upper c.in-Slice.lower) c.ops.ensures.ops c.requires.node c.index-ops-id.is c.in-Slice.is in
    let o = of_slice c.args.net.now c.args.id c.in-Slice.a c.in-Slice.upper c.in-Slice.lower c.ops.ensures.net h in
    omega (arith, o.2, wide_as c.args.net.now c.args.words.now c.args.wides.now (values_of (record { inputs = c.args.sources.inputs.now; states = c.args.sources.states.now }) c.args.net.now) c.in-Slice.a c.node-in-Slice.result (c.requires.keeps c.in-Slice.a o.0.before) (c.node-in-Slice.ensures (values_of (record { inputs = c.args.sources.inputs.now; states = c.args.sources.states.now }) c.args.net.now) (c.requires.keeps c.in-Slice.a o.0.before)))

pub returns-in-Slice : goal.returns-in-Slice
returns-in-Slice c =
    let h : Has c.args.net.now c.args.id (variant.Slice c.in-Slice.a c.in-Slice.upper c.in-Slice.lower) = here c.args.net.now c.ops.result.now c.args.id c.index-ops-id.result (variant.Slice c.in-Slice.a c.in-Slice.upper c.in-Slice.lower) c.ops.ensures.ops c.requires.node c.index-ops-id.is c.in-Slice.is in
    let o = of_slice c.args.net.now c.args.id c.in-Slice.a c.in-Slice.upper c.in-Slice.lower c.ops.ensures.net h in
    c.slice.ensures ∙ ap (λ (x : BitVector). op.slice x c.in-Slice.upper c.in-Slice.lower) (c.node-in-Slice.ensures (values_of (record { inputs = c.args.sources.inputs.now; states = c.args.sources.states.now }) c.args.net.now) (c.requires.keeps c.in-Slice.a o.0.before)) ∙ sym (by_operator (record { inputs = c.args.sources.inputs.now; states = c.args.sources.states.now }) c.args.net.now c.args.id (variant.Slice c.in-Slice.a c.in-Slice.upper c.in-Slice.lower) c.ops.ensures.net h)
