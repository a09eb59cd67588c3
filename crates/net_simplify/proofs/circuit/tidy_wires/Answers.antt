use Rattle.std.proofs.Common.{◌≡◌, ℕ, List, length, Bool, sym, subst, ◌∙◌}
use Rattle.net_graph.specs.declared.node.NetOp.{NetOp}
use Rattle.circuit_eval.specs.Tidy.{IsTidy}
use Rattle.circuit_eval.specs.declared.circuit.Wires.{Wires}
use Rattle.net_simplify.specs.inner.Passes.{AreServing, IsSimpler, LaysOut, rewired}
use Rattle.net_simplify.proofs.SameRuns.{made, rewired_simpler}
use Rattle.net_simplify.proofs.Tidying.{carries, lean_moved, tidied}
use Rattle.net_simplify.proofs.circuit.tidy_wires.Goals as goal

pub returns-clause-simpler : goal.returns-clause-simpler
returns-clause-simpler c =
    let before : Wires = c.args.wires.now in
    let net : List NetOp = c.in_ok-net.field-0.net in
    let places : List ℕ = c.in_ok-net.field-0.places.items in
    let marks : List Bool = c.in_ok-serves.serves.items in
    let valid = c.requires.circuit in
    let serving : AreServing before marks = c.in_ok-serves.ensures in
    let lays : LaysOut before.net marks (length before.net) net places =
    subst (λ (old : List NetOp). LaysOut old marks (length old) net places) c.ops.ensures.ops (subst (λ (m : List Bool). LaysOut c.ops.result.now m (length c.ops.result.now) net places) c.deref.ensures.value c.in_ok-net.ensures) in
    let wires : c.in_ok-wires.wires ≡ rewired net places before =
    c.in_ok-wires.ensures ∙ made before net places c.deref-2.result.now c.as_slice.result.now c.as_slice-2.result.now c.as_slice-3.result.now c.deref-2.ensures.value c.as_slice.ensures c.as_slice-2.ensures c.as_slice-3.ensures in
    subst (IsSimpler before) (sym wires) (rewired_simpler before valid net places (carries before valid marks serving net places lays) (lean_moved before valid marks serving net places lays c.requires.lean))

pub returns-clause-tidy : goal.returns-clause-tidy
returns-clause-tidy c =
    let before : Wires = c.args.wires.now in
    let net : List NetOp = c.in_ok-net.field-0.net in
    let places : List ℕ = c.in_ok-net.field-0.places.items in
    let marks : List Bool = c.in_ok-serves.serves.items in
    let valid = c.requires.circuit in
    let serving : AreServing before marks = c.in_ok-serves.ensures in
    let lays : LaysOut before.net marks (length before.net) net places =
    subst (λ (old : List NetOp). LaysOut old marks (length old) net places) c.ops.ensures.ops (subst (λ (m : List Bool). LaysOut c.ops.result.now m (length c.ops.result.now) net places) c.deref.ensures.value c.in_ok-net.ensures) in
    let wires : c.in_ok-wires.wires ≡ rewired net places before =
    c.in_ok-wires.ensures ∙ made before net places c.deref-2.result.now c.as_slice.result.now c.as_slice-2.result.now c.as_slice-3.result.now c.deref-2.ensures.value c.as_slice.ensures c.as_slice-2.ensures c.as_slice-3.ensures in
    subst IsTidy (sym wires) (tidied before valid marks serving net places lays c.requires.lean)
