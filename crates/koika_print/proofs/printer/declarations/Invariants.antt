use Rattle.std.proofs.Common.{take}
use Rattle.std.specs.List.{flat_map}
use Rattle.koika_syntax.specs.Grammar.{declaration_leaves}
use Rattle.koika_print.specs.inner.Printed.{Prints}
use Rattle.koika_print.proofs.printer.declarations.Given as goal

abbrev pub invariant-loop-one : goal.invariant-loop-one
invariant-loop-one l = Prints l.fn.out l.out (flat_map declaration_leaves (take l.one-index l.declarations))
