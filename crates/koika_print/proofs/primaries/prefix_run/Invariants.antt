use Rattle.std.proofs.Common.{take}
use Rattle.std.specs.List.{flat_map}
use Rattle.koika_syntax.specs.Grammar.{prefix_leaves}
use Rattle.koika_print.specs.inner.Printed.{Prints}
use Rattle.koika_print.proofs.primaries.prefix_run.Given as goal

abbrev pub invariant-loop-one : goal.invariant-loop-one
invariant-loop-one l = Prints l.fn.out l.out (flat_map prefix_leaves (take l.one-index l.prefixes))
