use Rattle.std.proofs.Common.{take}
use Rattle.std.specs.List.{flat_map}
use Rattle.koika_syntax.specs.Grammar.{rule_leaves}
use Rattle.koika_print.specs.inner.Printed.{Prints}
use Rattle.koika_print.proofs.scheduler.rules.Given as goal

abbrev pub invariant-loop-rule : goal.invariant-loop-rule
invariant-loop-rule l = Prints l.fn.out l.out (flat_map rule_leaves (take l.rule-index l.rules))
