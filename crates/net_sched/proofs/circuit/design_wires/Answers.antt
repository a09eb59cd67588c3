use Rattle.std.proofs.Common.{List, sym, subst}
use Rattle.net_graph.specs.Values.{AllRead}
use Rattle.net_graph.specs.declared.node.NetOp.{NetOp}
use Rattle.typed_core.specs.Widths.{input_widths, register_widths}
use Rattle.net_sched.specs.inner.Made.{AreEnds}
use Rattle.net_sched.proofs.Circuits.{IsMade, are_wires}
use Rattle.net_sched.proofs.circuit.design_wires.Goals as goal

pub returns : goal.returns
returns c =
    let d = c.args.design.now in
    let wires = c.in_ok-wires.wires in
    let next = c.in_ok-ends.ends.next in
    let fired = c.in_ok-ends.ends.fired in
    let net = c.in_ok-wires.ensures.net in
    let made : IsMade d wires next fired = record {
      net = c.in_ok-wires.ensures.is_net;
      reads = subst (λ (net : List NetOp). AllRead (input_widths d) (register_widths d) net) (sym net) c.in_ok-ends.ensures.reads;
      ends = subst (λ (net : List NetOp). AreEnds d net next fired) (sym net) c.in_ok-ends.ensures.ends;
      named = c.in_ok-wires.ensures.named;
    } in
    are_wires d wires next fired made c.in_ok-ends.ensures.valid
