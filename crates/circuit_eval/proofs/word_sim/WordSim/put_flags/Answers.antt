use Rattle.std.proofs.Common.{◌≡◌, ℕ, ◌<◌, List, length, map, sym, subst, ap, ◌∙◌}
use Rattle.std.specs.Prelude.{All, nat_eq}
use Rattle.net_graph.specs.Nets.{widths_of}
use Rattle.circuit_eval.specs.Programs.{word_at}
use Rattle.circuit_eval.specs.Run.{flag_nodes, flags}
use Rattle.circuit_eval.specs.Simulations.{Simulation}
use Rattle.circuit_eval.proofs.Kept.{flag_nodes_stand, flags_kept}
use Rattle.circuit_eval.proofs.word_sim.WordSim.put_flags.Goals.{After-recall}
use Rattle.circuit_eval.proofs.word_sim.WordSim.put_flags.Goals as goal

pub put_bits-requires-clause-nodes : goal.put_bits-requires-clause-nodes
put_bits-requires-clause-nodes c =
    let circuit = c.self.inside.circuit.now in
    let count : length circuit.net ≡ length c.deref-2.result.now = sym (ap length c.deref-2.ensures.value ∙ c.self.invariant.2.each) in
    let nodes : flag_nodes (widths_of circuit.net) circuit.outputs ≡ c.deref.result.now = sym (c.deref.ensures.value ∙ c.self.invariant.4) in
    subst (λ (ids : List ℕ). All (λ (id : ℕ). id < length c.deref-2.result.now) ids) nodes
    (subst (λ (n : ℕ). All (λ (id : ℕ). id < n) (flag_nodes (widths_of circuit.net) circuit.outputs)) count
    (flag_nodes_stand (length circuit.net) (widths_of circuit.net) circuit.outputs c.recall.ensures.outputs))

-- the flags are the words of their nodes
shown : (c : After-recall) → map (λ (id : ℕ). nat_eq (word_at c.self.inside.words.items id) 1) c.self.inside.flags.items ≡ flags c.args.self.now.outputs
shown c =
    let circuit = c.self.inside.circuit.now in
    ap (map (λ (id : ℕ). nat_eq (word_at c.self.inside.words.items id) 1)) c.self.invariant.4
    ∙ sym (flags_kept circuit.net c.self.inside.words.items c.self.inside.wides.items circuit.outputs c.self.invariant.3 c.recall.ensures.outputs)
    ∙ ap (λ (s : Simulation). flags s.outputs) c.self.view_is

pub put_bits-requires-clause-room : goal.put_bits-requires-clause-room
put_bits-requires-clause-room c =
    c.requires ∙ ap (λ (s : Simulation). length (flag_nodes (widths_of s.circuit.net) s.circuit.outputs)) (sym c.self.view_is) ∙ ap length (sym (c.deref.ensures.value ∙ c.self.invariant.4))

pub returns : goal.returns
returns c =
    c.put_bits.ensures ∙ ap (λ (ids : List ℕ). map (λ (id : ℕ). nat_eq (word_at c.deref-2.result.now id) 1) ids) c.deref.ensures.value
    ∙ ap (λ (words : List ℕ). map (λ (id : ℕ). nat_eq (word_at words id) 1) c.self.inside.flags.items) c.deref-2.ensures.value ∙ shown ((goal.at.returns c).After-recall)
