use Rattle.std.proofs.Common.{◌≡◌, ◌++◌, map, take}
use Rattle.invariant_check.specs.Obligations.{next_lit}
use Rattle.invariant_check.proofs.obligations.needed_lits.Given as goal

abbrev pub invariant-loop-literal : goal.invariant-loop-literal
invariant-loop-literal l = l.lits.items ≡ l.claims ++ map (next_lit l.nexts) (take l.literal-index l.literal-items)
