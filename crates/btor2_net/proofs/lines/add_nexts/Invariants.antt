use Rattle.std.proofs.Common.{◌≡◌, drop}
use Rattle.btor2_net.specs.inner.PageFields.{page_of}
use Rattle.btor2_net.specs.Pages.{with_nexts}
use Rattle.btor2_net.proofs.lines.add_nexts.Given as goal

abbrev pub invariant-loop-number : goal.invariant-loop-number
invariant-loop-number l = with_nexts l.ids.nodes.items l.ids.states.items (page_of l.page) l.number (drop l.number l.wires) ≡ with_nexts l.ids.nodes.items l.ids.states.items (page_of l.initial.page) 0 l.wires
