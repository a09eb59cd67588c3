use Rattle.koika_parse.proofs.ChainWords.{OperandsGo}
use Rattle.koika_parse.proofs.BlockWords.{ElseGo, InsideGo}
use Rattle.std.proofs.Common.{◌+◌, ◌-◌, ◌*◌, []}
use Rattle.koika_syntax.specs.inner.Grammar.{IsExpression, arm_leaves, expression_leaves, field_value_leaves}
use Rattle.koika_syntax.specs.inner.Grammar.{operand_leaves, statement_leaves}
use Rattle.koika_syntax.specs.Tree.{sign, word}
use Rattle.koika_parse.specs.inner.Parts.{IsArm, IsFieldValue, IsOperandIn, IsStatement}
use Rattle.koika_parse.specs.inner.Reading.{tokens_left}
use Rattle.koika_parse.proofs.Lists.{Joined, Row}
use Rattle.koika_parse.specs.inner.ExpressionWords.{Free, SomeOperandsWord}
use Rattle.koika_parse.proofs.Commas.{CommasGo}
use Rattle.koika_syntax.specs.declared.keyword.Keyword.TheVariants as keywords
use Rattle.koika_syntax.specs.declared.symbol.Symbol.TheVariants as symbols
use Rattle.koika_parse.proofs.source.Source.+expression.Given as goal

abbrev pub decreases-expression : goal.decreases-expression
decreases-expression l = tokens_left l.self.now l.cursor.now * 32 + 28

abbrev pub decreases-boxed : goal.decreases-boxed
decreases-boxed l = tokens_left l.self.now l.cursor.now * 32 + 29

abbrev pub decreases-conditional : goal.decreases-conditional
decreases-conditional l = tokens_left l.self.now l.cursor.now * 32 + 27

abbrev pub decreases-arm : goal.decreases-arm
decreases-arm l = tokens_left l.self.now l.cursor.now * 32 + 26

abbrev pub decreases-block : goal.decreases-block
decreases-block l = tokens_left l.self.now l.cursor.now * 32 + 0

abbrev pub decreases-inside : goal.decreases-inside
decreases-inside l = tokens_left l.self.now l.cursor.now * 32 + 30

abbrev pub decreases-binding : goal.decreases-binding
decreases-binding l = tokens_left l.self.now l.cursor.now * 32 + 0

abbrev pub decreases-operands : goal.decreases-operands
decreases-operands l = tokens_left l.self.now l.cursor.now * 32 + 1

abbrev pub decreases-operand : goal.decreases-operand
decreases-operand l = tokens_left l.self.now l.cursor.now * 32 + 0

abbrev pub decreases-unary : goal.decreases-unary
decreases-unary l = tokens_left l.self.now l.cursor.now * 32 + 13

abbrev pub decreases-postfix : goal.decreases-postfix
decreases-postfix l = tokens_left l.self.now l.cursor.now * 32 + 12

abbrev pub decreases-primary : goal.decreases-primary
decreases-primary l = tokens_left l.self.now l.cursor.now * 32 + 11

abbrev pub decreases-keyword_primary : goal.decreases-keyword_primary
decreases-keyword_primary l = tokens_left l.self.now l.cursor.now * 32 + 9

abbrev pub decreases-block_expression : goal.decreases-block_expression
decreases-block_expression l = tokens_left l.self.now l.cursor.now * 32 + 1

abbrev pub decreases-named : goal.decreases-named
decreases-named l = tokens_left l.self.now l.cursor.now * 32 + 0

abbrev pub decreases-array : goal.decreases-array
decreases-array l = tokens_left l.self.now l.cursor.now * 32 + 0

abbrev pub decreases-parentheses : goal.decreases-parentheses
decreases-parentheses l = tokens_left l.self.now l.cursor.now * 32 + 0

abbrev pub decreases-write : goal.decreases-write
decreases-write l = tokens_left l.self.now l.cursor.now * 32 + 0

abbrev pub decreases-pack : goal.decreases-pack
decreases-pack l = tokens_left l.self.now l.cursor.now * 32 + 0

abbrev pub decreases-unpack : goal.decreases-unpack
decreases-unpack l = tokens_left l.self.now l.cursor.now * 32 + 0

abbrev pub decreases-extend : goal.decreases-extend
decreases-extend l = tokens_left l.self.now l.cursor.now * 32 + 0

abbrev pub decreases-compare : goal.decreases-compare
decreases-compare l = tokens_left l.self.now l.cursor.now * 32 + 0

abbrev pub decreases-update : goal.decreases-update
decreases-update l = tokens_left l.self.now l.cursor.now * 32 + 0

abbrev pub decreases-arguments : goal.decreases-arguments
decreases-arguments l = tokens_left l.self.now l.cursor.now * 32 + 30

abbrev pub decreases-values : goal.decreases-values
decreases-values l = tokens_left l.self.now l.cursor.now * 32 + 29

abbrev pub decreases-field_values : goal.decreases-field_values
decreases-field_values l = tokens_left l.self.now l.cursor.now * 32 + 1

abbrev pub decreases-field_value : goal.decreases-field_value
decreases-field_value l = tokens_left l.self.now l.cursor.now * 32 + 0

abbrev pub decreases-chain : goal.decreases-chain
decreases-chain l = tokens_left l.self.now l.cursor.now * 32 + (25 - l.loosest)

abbrev pub invariant-conditional-more : goal.invariant-conditional-more
invariant-conditional-more l =
    Joined l.self l.fn.cursor l.cursor (word keywords.Else) arm_leaves IsArm l.arms ×
    ElseGo l.self l.fn.cursor l.cursor

abbrev pub decreases-conditional-more : goal.decreases-conditional-more
decreases-conditional-more l = tokens_left l.self l.cursor

abbrev pub invariant-inside-more : goal.invariant-inside-more
invariant-inside-more l =
    Row l.self l.fn.cursor l.cursor statement_leaves IsStatement l.statements ×
    InsideGo l.self l.fn.cursor l.cursor

abbrev pub decreases-inside-more : goal.decreases-inside-more
decreases-inside-more l = tokens_left l.self l.cursor

abbrev pub invariant-operands-more : goal.invariant-operands-more
invariant-operands-more l =
    Joined l.self l.fn.cursor l.cursor [] operand_leaves (IsOperandIn l.wanted) l.all ×
    OperandsGo l.self l.fn.cursor l.cursor l.wanted (SomeOperandsWord l.wanted)

abbrev pub decreases-operands-more : goal.decreases-operands-more
decreases-operands-more l = tokens_left l.self l.cursor

abbrev pub invariant-values-more : goal.invariant-values-more
invariant-values-more l =
    Joined l.self l.fn.cursor l.cursor (sign symbols.Comma) expression_leaves IsExpression l.all ×
    CommasGo l.self l.fn.cursor l.cursor (Free 0) IsExpression expression_leaves

abbrev pub decreases-values-more : goal.decreases-values-more
decreases-values-more l = tokens_left l.self l.cursor

abbrev pub invariant-field_values-more : goal.invariant-field_values-more
invariant-field_values-more l =
    Joined l.self l.fn.cursor l.cursor (sign symbols.Comma) field_value_leaves IsFieldValue l.all ×
    CommasGo l.self l.fn.cursor l.cursor (Free 0) IsFieldValue field_value_leaves

abbrev pub decreases-field_values-more : goal.decreases-field_values-more
decreases-field_values-more l = tokens_left l.self l.cursor

abbrev pub decreases-bracketed : goal.decreases-bracketed
decreases-bracketed l = tokens_left l.self.now l.cursor.now * 32 + 9

abbrev pub decreases-begun : goal.decreases-begun
decreases-begun l = tokens_left l.self.now l.cursor.now * 32 + 10
