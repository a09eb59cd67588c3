use Rattle.std.proofs.Common.{◌≡◌, ℕ, ◌<◌, List, length, map, sym, subst, ap, ◌∙◌, arith}
use Rattle.std.specs.Prelude.{All, nat_eq}
use Rattle.std.proofs.lemmas.List.{with_items_is}
use Rattle.net_graph.specs.Nets.{widths_of}
use Rattle.circuit_eval.specs.Programs.{word_at}
use Rattle.circuit_eval.specs.Run.{flag_nodes, flags}
use Rattle.circuit_eval.specs.Simulations.{Simulation}
use Rattle.circuit_eval.proofs.Kept.{flag_nodes_stand, flags_kept}
use Rattle.circuit_eval.proofs.word_sim.WordSim.flags.Goals as goal

pub put_bits-requires-clause-nodes : goal.put_bits-requires-clause-nodes
put_bits-requires-clause-nodes c =
    let circuit = c.self.inside.circuit.now in
    let count : length circuit.net ≡ length c.deref-3.result.now = sym (ap length c.deref-3.ensures.value ∙ c.self.invariant.2.each) in
    let nodes : flag_nodes (widths_of circuit.net) circuit.outputs ≡ c.deref-2.result.now = sym (c.deref-2.ensures.value ∙ c.self.invariant.4) in
    subst (λ (ids : List ℕ). All (λ (id : ℕ). id < length c.deref-3.result.now) ids) nodes
    (subst (λ (n : ℕ). All (λ (id : ℕ). id < n) (flag_nodes (widths_of circuit.net) circuit.outputs)) count
    (flag_nodes_stand (length circuit.net) (widths_of circuit.net) circuit.outputs c.recall.ensures.outputs))

pub returns-clause-flags : goal.returns-clause-flags
returns-clause-flags c =
    let circuit = c.self.inside.circuit.now in
    let words : List ℕ = c.self.inside.words.items in
    with_items_is c.in_ok-fired.fired c.put_bits.new.fired (omega (arith, c.put_bits.auto.fired, c.deref_mut.ensures.len, c.in_ok-fired.fired.ok.0)) ∙ c.put_bits.ensures
    ∙ ap (λ (ids : List ℕ). map (λ (id : ℕ). nat_eq (word_at c.deref-3.result.now id) 1) ids) c.deref-2.ensures.value
    ∙ ap (λ (ws : List ℕ). map (λ (id : ℕ). nat_eq (word_at ws id) 1) c.self.inside.flags.items) c.deref-3.ensures.value
    ∙ ap (map (λ (id : ℕ). nat_eq (word_at words id) 1)) c.self.invariant.4
    ∙ sym (flags_kept circuit.net words c.self.inside.wides.items circuit.outputs c.self.invariant.3 c.recall.ensures.outputs)
    ∙ ap (λ (s : Simulation). flags s.outputs) c.self.view_is
