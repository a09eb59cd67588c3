use Rattle.std.proofs.Common.{◌≡◌, ◌<◌, ◌+◌, ℕ, List, length, map, sym, subst, ap, ◌∙◌, Some}
use Rattle.std.specs.Prelude.{slice_get}
use Rattle.net_graph.specs.declared.node.NetOp.TheVariants.{State}
use Rattle.typed_core.specs.declared.design.RegDecl.{RegDecl}
use Rattle.net_action.specs.Wires.{HasWire}
use Rattle.net_sched.specs.inner.Cycles.{nth}
use Rattle.net_sched.proofs.Pushing.{longer}
use Rattle.net_sched.proofs.StateWires.{nodes_more, reads_more, wires_more}
use Rattle.net_sched.proofs.registers.state_wires.Goals as goal

pub loop-register-preserved : goal.loop-register-preserved
loop-register-preserved c =
    let decls = c.args.decls.now in
    let widths : List ℕ = map (λ (d : RegDecl). d.width) decls in
    let old = c.loop-register.net in
    let new = c.add.new.self in
    let wires = c.loop-register.wires in
    let i = c.loop-register.register in
    let id = c.in_ok-wire.wire in
    let decl = c.index-decls-register.result in
    let adds = c.in_ok-wire.ensures.adds in
    let inv = c.loop-register.invariant in
    let is = c.in_ok-push.ensures.ok in
    record {
      reads = reads_more decls old new wires i id decl c.loop-register-test.true c.index-decls-register.is adds c.add.ensures.net inv.count inv.reads;
      count = ap length is ∙ longer wires id i inv.count;
      nodes = subst (λ (ws : List ℕ). (k : ℕ) → k < i + 1 → slice_get new (nth ws k) ≡ Some (State k (nth widths k))) (sym is)
          (nodes_more decls old new wires i id decl c.loop-register-test.true c.index-decls-register.is adds c.add.ensures.net inv.count inv.nodes);
      wires = subst (λ (ws : List ℕ). (k : ℕ) → k < i + 1 → HasWire new (nth ws k) (nth widths k)) (sym is)
          (wires_more decls old new wires i id decl c.loop-register-test.true c.index-decls-register.is adds c.add.ensures.net inv.count inv.wires);
    }
