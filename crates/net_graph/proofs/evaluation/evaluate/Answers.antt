use Rattle.std.proofs.Common.{◌≡◌, ℕ, ◌<◌, ◌≤◌, List, [], ◌∷◌, ◌++◌, length, get_or, take, sym, ◌∙◌, ap, subst, arith}
use Rattle.std.proofs.lemmas.List.{take_all, take_more_set}
use Rattle.kw_bits.specs.BitVector.{BitVector}
use Rattle.net_graph.specs.Nets.{Stands}
use Rattle.net_graph.specs.Values.{op_value, Sources, values_of, widths}
use Rattle.net_graph.specs.declared.node.NetOp.{NetOp}
use Rattle.net_graph.proofs.OneByOne.{length-one_by_one, take_more-one_by_one}
use Rattle.net_graph.proofs.Values.{stands_over}
use Rattle.net_graph.proofs.evaluation.evaluate.Goals as goal

abbrev sources : List BitVector → List BitVector → Sources
sources inputs states = record { inputs = inputs; states = states }

-- the operator that is due
due : (ops items : List NetOp) (id : ℕ) (op : NetOp) → items ≡ ops → op ≡ get_or items id op → get_or ops id op ≡ op
due ops items id op same is = sym (is ∙ ap (λ (xs : List NetOp). get_or xs id op) same)

pub value_of-value-requires-clause-stands : goal.value_of-value-requires-clause-stands
value_of-value-requires-clause-stands c =
    let over = stands_over (sources c.args.inputs.now c.args.states.now) c.args.net.now c.loop-id.id c.op-item.result (omega (arith, ap length c.ops-op-items.ensures.ops)) c.ops-op-items.ensures.net c.requires.feeds in
    subst (λ (op : NetOp). Stands (widths (take c.loop-id.id c.loop-id.values)) op) (due c.args.net.now c.ops-op-items.result.now c.loop-id.id c.op-item.result c.ops-op-items.ensures.ops c.op-item.is) (subst (λ (before : List BitVector). Stands (widths before) (get_or c.args.net.now c.loop-id.id c.op-item.result)) (sym c.loop-id.invariant) over)

pub loop-id-preserved : goal.loop-id-preserved
loop-id-preserved c =
    let s : Sources = sources c.args.inputs.now c.args.states.now in
    let id = c.loop-id.id in
    let wide : id < length c.loop-id.values = omega (arith, ap length c.ops-op-items.ensures.ops) in
    let within : id < length c.args.net.now = omega (arith, ap length c.ops-op-items.ensures.ops) in
    take_more_set c.loop-id.values id c.value_of-value.result wide ∙ ap (λ (v : BitVector). take id c.loop-id.values ++ v ∷ []) c.value_of-value.ensures
    ∙ ap (λ (before : List BitVector). before ++ op_value s before c.op-item.result ∷ []) c.loop-id.invariant
    ∙ ap (λ (op : NetOp). take id (values_of s c.args.net.now) ++ op_value s (take id (values_of s c.args.net.now)) op ∷ []) (sym (due c.args.net.now c.ops-op-items.result.now c.loop-id.id c.op-item.result c.ops-op-items.ensures.ops c.op-item.is))
    ∙ sym (take_more-one_by_one (op_value s) c.args.net.now id c.op-item.result within)

pub returns : goal.returns
returns c =
    let s : Sources = sources c.args.inputs.now c.args.states.now in
    let over : length c.args.net.now ≤ c.loop-id.id = omega (arith, ap length c.ops-op-items.ensures.ops) in
    sym (take_all c.loop-id.id c.loop-id.values (omega (arith, over))) ∙ c.loop-id.invariant ∙ take_all c.loop-id.id (values_of s c.args.net.now) (omega (arith, over, length-one_by_one (op_value s) [] c.args.net.now))
