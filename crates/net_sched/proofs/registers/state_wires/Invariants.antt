use Rattle.std.proofs.Common.{◌≡◌, ◌<◌, ℕ, List, length, map, Some}
use Rattle.std.specs.Prelude.{slice_get}
use Rattle.net_graph.specs.Values.{AllRead}
use Rattle.net_graph.specs.declared.node.NetOp.TheVariants.{State}
use Rattle.typed_core.specs.declared.design.RegDecl.{RegDecl}
use Rattle.net_action.specs.Wires.{HasWire}
use Rattle.net_sched.specs.inner.Cycles.{nth}
use Rattle.net_sched.proofs.registers.state_wires.Given as goal

abbrev pub invariant-loop-register : goal.invariant-loop-register
invariant-loop-register l =
    let widths : List ℕ = map (λ (decl : RegDecl). decl.width) l.decls in
    record {
      reads : (inputs : List ℕ) → AllRead inputs widths l.net;
      count : length l.wires ≡ l.register;
      nodes : (register : ℕ) → register < l.register → slice_get l.net (nth l.wires register) ≡ Some (State register (nth widths register));
      wires : (register : ℕ) → register < l.register → HasWire l.net (nth l.wires register) (nth widths register);
    }
