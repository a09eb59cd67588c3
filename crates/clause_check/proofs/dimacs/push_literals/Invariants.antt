use Rattle.std.proofs.Common.{◌≡◌, ◌++◌, flat_map, take}
use Rattle.clause_check.specs.Dimacs.{literal_text}
use Rattle.clause_check.proofs.dimacs.push_literals.Given as goal

abbrev pub invariant-loop-literal : goal.invariant-loop-literal
invariant-loop-literal l = l.text ≡ l.fn.text ++ flat_map literal_text (take l.literal-index l.clause)
