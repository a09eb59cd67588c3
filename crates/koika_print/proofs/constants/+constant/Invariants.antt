use Rattle.std.proofs.Common.{map, take}
use Rattle.koika_syntax.specs.Grammar.{constant_leaves}
use Rattle.koika_syntax.specs.inner.Grammar.{constant_field_leaves}
use Rattle.koika_syntax.specs.Tree.{commas}
use Rattle.koika_print.specs.inner.Printed.{Prints}
use Rattle.koika_print.proofs.constants.+constant.Given as goal

abbrev pub invariant-constant_fields-loop-number : goal.invariant-constant_fields-loop-number
invariant-constant_fields-loop-number l = Prints l.fn.out l.out (commas (map constant_field_leaves (take l.number l.fields)))

abbrev pub invariant-constants-loop-number : goal.invariant-constants-loop-number
invariant-constants-loop-number l = Prints l.fn.out l.out (commas (map constant_leaves (take l.number l.values)))
