use Rattle.std.proofs.Common.{map, take}
use Rattle.koika_syntax.specs.inner.Grammar.{arm_leaves, expression_leaves, field_value_leaves, operand_leaves, statement_leaves}
use Rattle.koika_syntax.specs.Tree.{all_of, commas, with_between, word}
use Rattle.koika_syntax.specs.declared.keyword.Keyword.TheVariants as keywords
use Rattle.koika_print.specs.inner.Printed.{Prints}
use Rattle.koika_print.proofs.+expression.Given as goal

abbrev pub invariant-expressions::arm_run-loop-number : goal.invariant-expressions::arm_run-loop-number
invariant-expressions::arm_run-loop-number l = Prints l.fn.out l.out (with_between (word keywords.Else) (map arm_leaves (take l.number l.arms)))

abbrev pub invariant-expressions::operand_run-loop-one : goal.invariant-expressions::operand_run-loop-one
invariant-expressions::operand_run-loop-one l = Prints l.fn.out l.out (all_of (map operand_leaves (take l.one-index l.operands)))

abbrev pub invariant-expressions::values-loop-number : goal.invariant-expressions::values-loop-number
invariant-expressions::values-loop-number l = Prints l.fn.out l.out (commas (map expression_leaves (take l.number l.values)))

abbrev pub invariant-expressions::field_values-loop-number : goal.invariant-expressions::field_values-loop-number
invariant-expressions::field_values-loop-number l = Prints l.fn.out l.out (commas (map field_value_leaves (take l.number l.fields)))

abbrev pub invariant-expressions::statement_run-loop-one : goal.invariant-expressions::statement_run-loop-one
invariant-expressions::statement_run-loop-one l = Prints l.fn.out l.out (all_of (map statement_leaves (take l.one-index l.statements)))
