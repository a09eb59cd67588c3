use Rattle.std.proofs.Common.{◌≡◌, ◌⊎◌, inl, inr, ℕ, ◌+◌, ◌<◌, List, length, take, refl, sym, ap, ◌∙◌, eq-eqb, arith}
use Rattle.std.specs.Prelude.{◌==◌, cond, slice_index_or, slice_set}
use Rattle.std.proofs.lemmas.Bool.{cases_eq, ne_eqb}
use Rattle.std.proofs.lemmas.List.{get_or-set_other, get_or-set_same, get_or_default, length-set}
use Rattle.std.proofs.lemmas.List.Sums.{count_by-le-length, sum_by_more}
use Rattle.std.proofs.lemmas.Option.{slice_get_read}
use Rattle.typed_core.specs.declared.design.Node.{Node}
use Rattle.typed_core.specs.declared.design.Parts.{Parts}
use Rattle.board_core.specs.inner.Counts.{weight}
use Rattle.board_core.proofs.Counts.{length_first}
use Rattle.board_core.proofs.counted.weights_of.Goals as goal

pub overflow_add-index_mut : goal.overflow_add-index_mut
overflow_add-index_mut c =
    let l = c.loop-number in
    let here = c.design.inside.nodes in
    let nodes = c.args.design.now.nodes in
    let node = c.get-node.result.now in
    let rules = ap (λ (d : Parts). length d.rules) c.design.view_is in
    let inside : l.number < length here = omega (arith, c.loop-number-test.true, c.loop-number.auto.number-end, c.len-number-end.ensures) in
    let found = slice_get_read here (length here) l.number node refl inside c.get-node.ensures in
    let rule : node.rule < length c.args.design.now.rules = omega (arith, (c.design.invariant.nodes l.number node found).rule, rules) in
    let value : c.index_mut.result.now ≡ slice_index_or l.weights.items node.rule 0 =
    c.index_mut.ensures.value ∙ get_or_default l.weights.items node.rule c.index_mut.result.now 0 (omega (arith, rule, l.invariant.count)) in
    omega (arith, value, l.invariant.each node.rule rule, count_by-le-length (λ (n : Node). n.rule == node.rule) (take l.number nodes), length_first l.number nodes, c.loop-number-test.true, c.len-number-end.type_inv, c.loop-number.auto.number-end)

pub loop-number-preserved : goal.loop-number-preserved
loop-number-preserved c = record { count = length-set c.loop-number.weights.items node.rule (c.index_mut.result.now + 1) ∙ c.loop-number.invariant.count; each = λ rule within. by rule within (cases_eq rule node.rule) }
  where
    here : List Node
    here = c.design.inside.nodes

    nodes : List Node
    nodes = c.args.design.now.nodes

    node : Node
    node = c.get-node.result.now

    inside : c.loop-number.number < length here
    inside = omega (arith, c.loop-number-test.true, c.loop-number.auto.number-end, c.len-number-end.ensures)

    same : here ≡ nodes
    same = ap (λ (d : Parts). d.nodes) c.design.view_is

    read : slice_index_or nodes c.loop-number.number node ≡ node
    read = sym (c.get-node.ensures ∙ ap (λ (ns : List Node). slice_index_or ns c.loop-number.number node) same)

    rule_of : node.rule < length c.args.design.now.rules
    rule_of =
        let rules = ap (λ (d : Parts). length d.rules) c.design.view_is in
        let found = slice_get_read here (length here) c.loop-number.number node refl inside c.get-node.ensures in
        omega (arith, (c.design.invariant.nodes c.loop-number.number node found).rule, rules)

    value : c.index_mut.result.now ≡ slice_index_or c.loop-number.weights.items node.rule 0
    value = c.index_mut.ensures.value ∙ get_or_default c.loop-number.weights.items node.rule c.index_mut.result.now 0 (omega (arith, rule_of, c.loop-number.invariant.count))

    more : (rule : ℕ) → weight (take (c.loop-number.number + 1) nodes) rule ≡ weight (take c.loop-number.number nodes) rule + cond (node.rule == rule) 1 0
    more rule =
        sum_by_more (λ (n : Node). cond (n.rule == rule) 1 0) nodes c.loop-number.number node (omega (arith, inside, ap length same))
        ∙ ap (λ (n : Node). weight (take c.loop-number.number nodes) rule + cond (n.rule == rule) 1 0) read

    by : (rule : ℕ) → rule < length c.args.design.now.rules → (rule ≡ node.rule) ⊎ (rule ≡ node.rule → ⊥) → slice_index_or (slice_set c.loop-number.weights.items node.rule (c.index_mut.result.now + 1)) rule 0 ≡ weight (take (c.loop-number.number + 1) nodes) rule
    by rule within (inl e) =
        ap (λ (r : ℕ). slice_index_or (slice_set c.loop-number.weights.items node.rule (c.index_mut.result.now + 1)) r 0) e
        ∙ get_or-set_same c.loop-number.weights.items node.rule (c.index_mut.result.now + 1) 0 (omega (arith, rule_of, c.loop-number.invariant.count))
        ∙ ap (λ (n : ℕ). n + 1) (value ∙ c.loop-number.invariant.each node.rule rule_of ∙ ap (weight (take c.loop-number.number nodes)) (sym e))
        ∙ sym (more rule ∙ ap (λ b. weight (take c.loop-number.number nodes) rule + cond b 1 0) (eq-eqb node.rule rule (sym e)))
    by rule within (inr ne) =
        get_or-set_other c.loop-number.weights.items node.rule rule (c.index_mut.result.now + 1) 0 ne ∙ c.loop-number.invariant.each rule within
        ∙ (let none : weight (take c.loop-number.number nodes) rule ≡ weight (take c.loop-number.number nodes) rule + 0 = omega arith in none)
        ∙ sym (more rule ∙ ap (λ b. weight (take c.loop-number.number nodes) rule + cond b 1 0) (ne_eqb node.rule rule (λ e. ne (sym e))))
