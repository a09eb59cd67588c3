use Rattle.std.proofs.Common.{◌≡◌, drop}
use Rattle.btor2_net.specs.inner.PageFields.{page_of}
use Rattle.btor2_net.specs.Pages.{with_outputs}
use Rattle.btor2_net.proofs.lines.add_outputs.Given as goal

abbrev pub invariant-loop-wire : goal.invariant-loop-wire
invariant-loop-wire l = with_outputs l.nodes (page_of l.page) (drop l.wire-index l.wires) ≡ with_outputs l.nodes (page_of l.initial.page) l.wires
