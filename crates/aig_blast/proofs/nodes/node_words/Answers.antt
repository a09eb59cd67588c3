use Rattle.std.proofs.Common.{◌≡◌, ℕ, ◌<◌, ◌≤◌, List, [], ◌∷◌, ◌++◌, length, get_or, sym, ap, subst, ◌∙◌, arith}
use Rattle.net_graph.specs.Nets.{Stands}
use Rattle.net_graph.specs.Values.{op_value}
use Rattle.net_graph.specs.declared.node.NetOp.{NetOp}
use Rattle.aig_blast.specs.inner.Nodes.{lengths, sources_of, words_bits}
use Rattle.aig_blast.specs.Words.{MakesBits}
use Rattle.aig_blast.proofs.NodeWords.{MakesNodes-all, MakesNodes-at, MakesNodes-push, stands-next}
use Rattle.aig_blast.proofs.nodes.node_words.Goals as goal

-- the operator that is due
due : (ops items : List NetOp) (id : ℕ) (op : NetOp) → items ≡ ops → op ≡ get_or items id op → get_or ops id op ≡ op
due ops items id op same is = sym (is ∙ ap (λ (xs : List NetOp). get_or xs id op) same)

pub node_word-requires-clause-stands : goal.node_word-requires-clause-stands
node_word-requires-clause-stands c =
    let op = c.op-item.result in
    let within : c.loop-op.op-index < length c.args.net.now = omega (arith, ap length c.ops-op-items.ensures.ops) in
    let here = due c.args.net.now c.ops-op-items.result.now c.loop-op.op-index op c.ops-op-items.ensures.ops c.op-item.is in
    subst (λ (words : List (List ℕ)). Stands (lengths words) op) (sym c.as_slice.ensures)
    (stands-next c.args.graph.now c.loop-op.graph c.args.inputs.now c.args.states.now c.loop-op.words c.args.net.now c.loop-op.op-index op op c.ops-op-items.ensures.net c.requires.inputs c.requires.states c.requires.reads c.loop-op.invariant within here)

pub loop-op-preserved : goal.loop-op-preserved
loop-op-preserved c =
    let op = c.op-item.result in
    let net = c.args.net.now in
    let within : c.loop-op.op-index < length net = omega (arith, ap length c.ops-op-items.ensures.ops) in
    let here = due net c.ops-op-items.result.now c.loop-op.op-index op c.ops-op-items.ensures.ops c.op-item.is in
    let lits : List ℕ = c.in_ok-word.word.items in
    let made : MakesBits c.loop-op.graph c.node_word.new.graph lits (λ i. op_value (sources_of i c.loop-op.graph c.args.inputs.now c.args.states.now) (words_bits i c.loop-op.graph c.loop-op.words) op) =
    subst (λ (words : List (List ℕ)). MakesBits c.loop-op.graph c.node_word.new.graph lits (λ i. op_value (sources_of i c.loop-op.graph c.args.inputs.now c.args.states.now) (words_bits i c.loop-op.graph words) op)) c.as_slice.ensures c.in_ok-word.ensures in
    let words : c.push.new.self ≡ c.loop-op.words ++ lits ∷ [] = c.in_ok-push.ensures.ok ∙ ap (λ (last : List ℕ). c.loop-op.words ++ last ∷ []) c.from_vec.ensures in
    MakesNodes-at words
    (MakesNodes-push c.args.graph.now c.loop-op.graph c.node_word.new.graph c.args.inputs.now c.args.states.now c.loop-op.words lits net c.loop-op.op-index op op c.ops-op-items.ensures.net c.requires.inputs c.requires.states c.requires.reads c.loop-op.invariant within here made)

pub returns : goal.returns
returns c =
    let over : length c.args.net.now ≤ c.loop-op.op-index = omega (arith, ap length c.ops-op-items.ensures.ops) in
    MakesNodes-all c.args.graph.now c.loop-op.graph c.args.inputs.now c.args.states.now c.loop-op.words c.args.net.now c.loop-op.op-index over c.loop-op.invariant
