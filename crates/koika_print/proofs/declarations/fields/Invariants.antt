use Rattle.std.proofs.Common.{map, take}
use Rattle.koika_syntax.specs.Grammar.{field_leaves}
use Rattle.koika_syntax.specs.Tree.{commas}
use Rattle.koika_print.specs.inner.Printed.{Prints}
use Rattle.koika_print.proofs.declarations.fields.Given as goal

abbrev pub invariant-loop-number : goal.invariant-loop-number
invariant-loop-number l = Prints l.fn.out l.out (commas (map field_leaves (take l.number l.fields)))
