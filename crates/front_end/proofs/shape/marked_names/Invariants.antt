use Rattle.std.proofs.Common.{◌≡◌, map, take}
use Rattle.front_end.specs.Marks.{marked_name}
use Rattle.front_end.proofs.shape.marked_names.Given as goal

abbrev pub invariant-loop-mark : goal.invariant-loop-mark
invariant-loop-mark l = l.names ≡ map (marked_name l.design) (take l.mark-index l.design.asserts)
