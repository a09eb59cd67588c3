use Rattle.std.proofs.Common.{map, take}
use Rattle.koika_syntax.specs.Tree.{literal_leaves}
use Rattle.koika_syntax.specs.Tree.{commas}
use Rattle.koika_print.specs.inner.Printed.{Prints}
use Rattle.koika_print.proofs.declarations.literals.Given as goal

abbrev pub invariant-loop-number : goal.invariant-loop-number
invariant-loop-number l = Prints l.fn.out l.out (commas (map literal_leaves (take l.number l.literals)))
