use Rattle.std.proofs.Common.{◌≡◌, map, take}
use Rattle.btor2_model.specs.Run.{lines_by_rule}
use Rattle.btor2_net.specs.inner.Wires.{is_form, zero_of}
use Rattle.btor2_net.proofs.wires.zeros.Given as goal

abbrev pub invariant-loop-line : goal.invariant-loop-line
invariant-loop-line l = l.zeros.items ≡ map (zero_of l.nodes) (lines_by_rule (is_form l.form) (take l.line-index l.lines))
