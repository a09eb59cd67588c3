use Rattle.std.proofs.Common.{◌≡◌, [], drop}
use Rattle.btor2_net.specs.inner.PageFields.{page_of}
use Rattle.btor2_net.specs.Pages.{with_states}
use Rattle.btor2_net.proofs.lines.add_states.Given as goal

abbrev pub invariant-loop-wire : goal.invariant-loop-wire
invariant-loop-wire l = with_states (record { page = page_of l.page; ids = l.ids.items }) (drop l.wire-index l.wires) ≡ with_states (record { page = page_of l.initial.page; ids = [] }) l.wires
