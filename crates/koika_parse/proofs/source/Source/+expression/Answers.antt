use Rattle.std.proofs.Common.{◌≡◌, List, Result, subst, sym, refl, ap, arith, [], ◌∙◌, append-nil, map, None, Some}
use Rattle.koika_syntax.specs.Tree.{Leaf, symbol, commas, with_between, keyword, sign, word}
use Rattle.koika_syntax.specs.declared.keyword.Keyword.{Keyword}
use Rattle.koika_parse.specs.declared.cursor.Cursor.{Cursor}
use Rattle.koika_parse.specs.declared.source.Source.{Source}
use Rattle.koika_parse.specs.inner.Stops.{Stop}
use Rattle.koika_parse.specs.inner.Reading.{kind_at}
use Rattle.koika_parse.specs.inner.Expected.{NoComma, One, Then, Any, Takes, first}
use Rattle.koika_parse.specs.inner.ExpressionWords.{KeywordWord, brace_follows, parenthesis_follows, Free, LevelWord}
use Rattle.koika_parse.proofs.Expected.{Apart, Has, Within, before_one, before_one_then, fails, fails_before}
use Rattle.koika_parse.proofs.Expected.{fails_last, fails_last_as, finish, free_last, last, last_part, not_so, tail}
use Rattle.koika_parse.proofs.Expected.{takes_word, never_none, same_of_some, some_one}
use Rattle.koika_parse.proofs.PrimaryWords.{keyword_at, arguments_at, arguments_end, named_call, named_colons}
use Rattle.koika_parse.proofs.PrimaryWords.{named_end, named_start, parenthesis_free, primary_none, FieldValuesTail}
use Rattle.koika_parse.proofs.PrimaryWords.{array_start, block_primary_start, compare_start}
use Rattle.koika_parse.proofs.PrimaryWords.{extend_start, some_field_value, keyword_refused, literal_at, named_at}
use Rattle.koika_parse.proofs.PrimaryWords.{other_keyword, pack_start, parentheses_start, some_array, some_compare}
use Rattle.koika_parse.proofs.PrimaryWords.{some_extend, some_field_values_tail, some_pack, some_parentheses, some_read}
use Rattle.koika_parse.proofs.PrimaryWords.{some_unpack, some_update, some_write, symbol_at, symbol_refused}
use Rattle.koika_parse.proofs.PrimaryWords.{unpack_start, update_start, write_start}
use Rattle.koika_parse.proofs.MadeExpressions.{abort_primary, array_primary, block_primary, compare_primary}
use Rattle.koika_parse.proofs.MadeExpressions.{extend_primary, pack_primary, parentheses_primary, read_primary}
use Rattle.koika_parse.proofs.MadeExpressions.{unpack_primary, update_primary, write_primary}
use Rattle.koika_parse.proofs.ExpressionWords.{PrimaryWord}
use Rattle.koika_parse.proofs.Witnesses.{some_block, some_expression}
use Rattle.koika_syntax.specs.declared.token.TokenKind.TheVariants as kinds
use Rattle.koika_syntax.specs.Grammar.{level}
use Rattle.koika_syntax.specs.inner.Grammar.{IsExpression, expression_leaves, field_value_leaves, operand_leaves}
use Rattle.koika_syntax.specs.inner.Grammar.{arm_leaves, statement_leaves}
use Rattle.std.specs.List.{All}
use Rattle.std.proofs.lemmas.List.Elements.{All-nil}
use Rattle.koika_syntax.proofs.Leaves.{array_expression, chain_expression, if_expression, block_expression}
use Rattle.koika_syntax.proofs.Leaves.{call_expression, compare_expression, struct_expression, update_expression}
use Rattle.koika_parse.specs.inner.Parts.{IsFieldValue, IsOperandIn, IsArm, IsStatement}
use Rattle.koika_parse.proofs.Reading.{in_place_of, as_leaves, shorter, nothing}
use Rattle.koika_parse.proofs.Lists.{joined_start, joined_again, parts_after_another, row_start, row_again}
use Rattle.koika_parse.proofs.Parts.{is_array, is_parentheses, is_write, is_pack, is_unpack, is_extend, is_compare}
use Rattle.koika_parse.proofs.Parts.{is_update, is_block_expression, is_call, is_name, is_member, is_struct}
use Rattle.koika_parse.proofs.Parts.{is_field_value, is_arm, is_let, is_do, is_block, is_if, is_chain_of}
use Rattle.koika_parse.proofs.Parts.{level_chain_of, is_operand, is_operand_at, is_unary, is_postfix, level_unary}
use Rattle.koika_parse.proofs.Parts.{level_postfix, level_array, level_parentheses, level_write, level_pack}
use Rattle.koika_parse.proofs.Parts.{level_unpack, level_extend, level_compare, level_update, level_block, level_call}
use Rattle.koika_parse.proofs.Parts.{level_name, level_member, level_struct}
use Rattle.koika_parse.proofs.Calls.{leaves_parentheses, leaves_write, leaves_pack, leaves_unpack, leaves_extend}
use Rattle.koika_parse.proofs.Calls.{leaves_name, leaves_member, leaves_field_value, leaves_arm, leaves_let}
use Rattle.koika_parse.proofs.Calls.{leaves_block, leaves_unary, leaves_postfix, leaves_operand, leaves_do, all_of_map}
use Rattle.koika_parse.proofs.BlockWords.{after_apart, after_at, after_end, arm_start, before_block, block_start}
use Rattle.koika_parse.proofs.BlockWords.{conditional_start, else_arm, else_at, else_block, else_end, expression_chain}
use Rattle.koika_parse.proofs.BlockWords.{expression_if, expression_start, field_value_start, inside_end}
use Rattle.koika_parse.proofs.BlockWords.{inside_expression, inside_let, inside_start, let_start}
use Rattle.koika_parse.proofs.Rows.{brace_not_name, name_not_brace}
use Rattle.koika_parse.proofs.ChainWords.{chain_start, free_more, operand_start, operands_apart, operands_at}
use Rattle.koika_parse.proofs.ChainWords.{operands_end, operands_start, postfix_start, prefixes_apart, suffixes_apart}
use Rattle.koika_parse.proofs.ChainWords.{suffixes_at, suffixes_end, unary_at, unary_end, chain_go}
use Rattle.koika_parse.proofs.Commas.{commas_apart, commas_at, commas_end, commas_start, commas_first, commas_next}
use Rattle.koika_syntax.specs.declared.keyword.Keyword.TheVariants as keywords
use Rattle.koika_syntax.specs.declared.symbol.Symbol.TheVariants as symbols
use Rattle.koika_syntax.specs.declared.tree.Expression.TheViews as views
use Rattle.koika_syntax.specs.declared.operator.Extension.TheVariants as extensions
use Rattle.koika_syntax.specs.declared.operator.SignedComparison.TheVariants as comparisons
use Rattle.koika_parse.proofs.Steps.{◌then◌, ◌past◌, ◌past◌by◌, ◌so◌, reads_word}
use Rattle.koika_parse.proofs.source.Source.+expression.Goals as goal

-- an expression in front of a token that ends it
right_parenthesis : Apart (One (symbol symbols.RightParenthesis)) Any (Free 0)
right_parenthesis = before_one Any (Free 0) (symbol symbols.RightParenthesis) tt

semicolon : Apart (One (symbol symbols.Semicolon)) Any (Free 0)
semicolon = before_one Any (Free 0) (symbol symbols.Semicolon) tt

comma : {Q : List Leaf → Type 0} → Apart (Then (One (symbol symbols.Comma)) Q) Any (Free 0)
comma {Q} = before_one_then Q Any (Free 0) (symbol symbols.Comma) tt

-- a list in front of the bracket that closes it
right_bracket : Apart (One (symbol symbols.RightBracket)) Any (NoComma (Free 0))
right_bracket = before_one Any (NoComma (Free 0)) (symbol symbols.RightBracket) (tt, refl)

right_brace : Apart (One (symbol symbols.RightBrace)) Any brace_follows
right_brace = before_one Any brace_follows (symbol symbols.RightBrace) refl

arguments_close : Apart (One (symbol symbols.RightParenthesis)) (Free 12) parenthesis_follows
arguments_close = before_one (Free 12) parenthesis_follows (symbol symbols.RightParenthesis) refl

fields_close : Apart (One (symbol symbols.RightBrace)) (Free 12) (NoComma (Free 0))
fields_close = before_one (Free 12) (NoComma (Free 0)) (symbol symbols.RightBrace) (tt, refl)

-- a primary by the keyword that it begins with
begun_by : {X : Type 0} {source : Source} {old new : Cursor} {result : Result X Stop} {found k : Keyword} →
    kind_at source old ≡ Some (kinds.Keyword found) → found ≡ k → Has (KeywordWord k) →
    Within (KeywordWord k) (LevelWord 12) → Takes source old new (KeywordWord k) Any result →
    Takes source old new (LevelWord 12) (Free 12) result
begun_by {k = k} at same some within takes =
    keyword_at k some within (at ∙ ap (λ k. Some (kinds.Keyword k)) same) takes

pub boxed-returns-clause-read : goal.boxed-returns-clause-read
boxed-returns-clause-read t c =
    in_place_of expression_leaves c.in_ok-boxed.boxed c.in_ok-boxed.ensures c.in_ok-inside.ensures.read

pub boxed-returns-clause-is : goal.boxed-returns-clause-is
boxed-returns-clause-is t c = subst IsExpression (sym c.in_ok-boxed.ensures) c.in_ok-inside.ensures.is

pub array-returns-clause-read : goal.array-returns-clause-read
array-returns-clause-read t c = as_leaves _ (array_expression _ _)
    (c.in_ok-place.ensures.read then c.in_ok-elements.ensures.read then c.in_ok-sign.ensures.read)

pub array-returns-clause-is : goal.array-returns-clause-is
array-returns-clause-is t c = is_array _ _ c.in_ok-elements.ensures.is c.in_ok-elements.ensures.some

pub array-returns-clause-level : goal.array-returns-clause-level
array-returns-clause-level t c = level_array _ _

pub parentheses-returns-clause-read : goal.parentheses-returns-clause-read
parentheses-returns-clause-read t c = as_leaves _ (leaves_parentheses _ _)
    (c.in_ok-place.ensures.read then c.in_ok-inside.ensures.read then c.in_ok-sign.ensures.read)

pub parentheses-returns-clause-is : goal.parentheses-returns-clause-is
parentheses-returns-clause-is t c = is_parentheses _ _ c.in_ok-inside.ensures.is tt

pub parentheses-returns-clause-level : goal.parentheses-returns-clause-level
parentheses-returns-clause-level t c = level_parentheses _ _

pub write-returns-clause-read : goal.write-returns-clause-read
write-returns-clause-read t c = as_leaves _ (leaves_write _ _ _ _)
    (reads_word c.write_word.ensures c.in_ok-place.ensures.read then c.in_ok-sign.ensures.read
    then c.in_ok-register.ensures.read then c.in_ok-sign-2.ensures.read then c.in_ok-value.ensures.read
    then c.in_ok-sign-3.ensures.read)

pub write-returns-clause-is : goal.write-returns-clause-is
write-returns-clause-is t c = is_write _ _ _ _ c.in_ok-value.ensures.is (c.requires, c.in_ok-register.ensures.is)

pub write-returns-clause-level : goal.write-returns-clause-level
write-returns-clause-level t c = level_write _ _ _ _

pub pack-returns-clause-read : goal.pack-returns-clause-read
pack-returns-clause-read t c = as_leaves _ (leaves_pack _ _)
    (c.in_ok-place.ensures.read then c.in_ok-sign.ensures.read then c.in_ok-value.ensures.read
    then c.in_ok-sign-2.ensures.read)

pub pack-returns-clause-is : goal.pack-returns-clause-is
pack-returns-clause-is t c = is_pack _ _ c.in_ok-value.ensures.is tt

pub pack-returns-clause-level : goal.pack-returns-clause-level
pack-returns-clause-level t c = level_pack _ _

pub unpack-returns-clause-read : goal.unpack-returns-clause-read
unpack-returns-clause-read t c = as_leaves _ (leaves_unpack _ _ _)
    (c.in_ok-place.ensures.read then c.in_ok-sign.ensures.read then c.in_ok-to.ensures.read
    then c.in_ok-sign-2.ensures.read then c.in_ok-value.ensures.read then c.in_ok-sign-3.ensures.read)

pub unpack-returns-clause-is : goal.unpack-returns-clause-is
unpack-returns-clause-is t c = is_unpack _ _ _ c.in_ok-value.ensures.is c.in_ok-to.ensures.is

pub unpack-returns-clause-level : goal.unpack-returns-clause-level
unpack-returns-clause-level t c = level_unpack _ _ _

pub extend-returns-clause-read : goal.extend-returns-clause-read
extend-returns-clause-read t c = as_leaves _ (leaves_extend _ _ _ _)
    (reads_word c.word.ensures c.in_ok-place.ensures.read then c.in_ok-sign.ensures.read then c.in_ok-value.ensures.read
    then c.in_ok-sign-2.ensures.read then c.in_ok-width.ensures.read then c.in_ok-sign-3.ensures.read)

pub extend-returns-clause-is : goal.extend-returns-clause-is
extend-returns-clause-is t c = is_extend _ _ _ _ c.in_ok-value.ensures.is c.in_ok-width.ensures.is

pub extend-returns-clause-level : goal.extend-returns-clause-level
extend-returns-clause-level t c = level_extend _ _ _ _

pub compare-returns-clause-read : goal.compare-returns-clause-read
compare-returns-clause-read t c = as_leaves _ (compare_expression _ _ _ _)
    (reads_word c.word.ensures c.in_ok-place.ensures.read then c.in_ok-sign.ensures.read then c.in_ok-left.ensures.read
    then c.in_ok-sign-2.ensures.read then c.in_ok-right.ensures.read then c.in_ok-sign-3.ensures.read)

pub compare-returns-clause-is : goal.compare-returns-clause-is
compare-returns-clause-is t c = is_compare _ _ _ _ c.in_ok-left.ensures.is c.in_ok-right.ensures.is tt

pub compare-returns-clause-level : goal.compare-returns-clause-level
compare-returns-clause-level t c = level_compare _ _ _ _

pub update-returns-clause-read : goal.update-returns-clause-read
update-returns-clause-read t c = as_leaves _ (update_expression _ _ _ _)
    (c.in_ok-place.ensures.read then c.in_ok-sign.ensures.read then c.in_ok-whole.ensures.read
    then c.in_ok-sign-2.ensures.read then c.in_ok-part.ensures.read then c.in_ok-sign-3.ensures.read
    then c.in_ok-value.ensures.read then c.in_ok-sign-4.ensures.read)

pub update-returns-clause-is : goal.update-returns-clause-is
update-returns-clause-is t c =
    is_update _ _ _ _ c.in_ok-whole.ensures.is c.in_ok-value.ensures.is c.in_ok-part.ensures.is

pub update-returns-clause-level : goal.update-returns-clause-level
update-returns-clause-level t c = level_update _ _ _ _

pub block_expression-returns-clause-read : goal.block_expression-returns-clause-read
block_expression-returns-clause-read t c = as_leaves _ (block_expression _) (c.in_ok-block.ensures.read)

pub block_expression-returns-clause-is : goal.block_expression-returns-clause-is
block_expression-returns-clause-is t c = is_block_expression _ c.in_ok-block.ensures.is tt

pub block_expression-returns-clause-level : goal.block_expression-returns-clause-level
block_expression-returns-clause-level t c = level_block _

pub named-returns-then-is_at_sign-clause-read : goal.named-returns-then-is_at_sign-clause-read
named-returns-then-is_at_sign-clause-read t c = as_leaves _ (call_expression _ _)
    (c.in_ok-name.ensures.read then c.in_ok-sign.ensures.read then c.in_ok-arguments.ensures.read
    then c.in_ok-sign-2.ensures.read)

pub named-returns-then-is_at_sign-clause-is : goal.named-returns-then-is_at_sign-clause-is
named-returns-then-is_at_sign-clause-is t c = is_call _ _ c.in_ok-arguments.ensures.is c.in_ok-name.ensures.is

pub named-returns-then-is_at_sign-clause-level : goal.named-returns-then-is_at_sign-clause-level
named-returns-then-is_at_sign-clause-level t c = level_call _ _

pub named-returns-clause-read : goal.named-returns-clause-read
named-returns-clause-read t c = as_leaves _ (leaves_name _) (c.in_ok-name.ensures.read)

pub named-returns-clause-is : goal.named-returns-clause-is
named-returns-clause-is t c = is_name _ c.in_ok-name.ensures.is

pub named-returns-clause-level : goal.named-returns-clause-level
named-returns-clause-level t c = level_name _

pub named-returns-then-is_at_name-clause-read : goal.named-returns-then-is_at_name-clause-read
named-returns-then-is_at_name-clause-read t c = as_leaves _ (leaves_member _ _)
    (c.in_ok-name.ensures.read then c.in_ok-sign-3.ensures.read then c.in_ok-member.ensures.read)

pub named-returns-then-is_at_name-clause-is : goal.named-returns-then-is_at_name-clause-is
named-returns-then-is_at_name-clause-is t c = is_member _ _ (c.in_ok-name.ensures.is, c.in_ok-member.ensures.is)

pub named-returns-then-is_at_name-clause-level : goal.named-returns-then-is_at_name-clause-level
named-returns-then-is_at_name-clause-level t c = level_member _ _

pub named-returns-then-is_at_sign-2-clause-read : goal.named-returns-then-is_at_sign-2-clause-read
named-returns-then-is_at_sign-2-clause-read t c = as_leaves _ (struct_expression _ _ _)
    (c.in_ok-name.ensures.read then c.in_ok-sign-3.ensures.read then c.in_ok-sign-4.ensures.read
    then c.in_ok-fields.ensures.read then c.in_ok-close.ensures.read)

pub named-returns-then-is_at_sign-2-clause-is : goal.named-returns-then-is_at_sign-2-clause-is
named-returns-then-is_at_sign-2-clause-is t c =
    is_struct _ _ _ c.in_ok-fields.ensures.is (c.in_ok-name.ensures.is, c.in_ok-fields.ensures.some)

pub named-returns-then-is_at_sign-2-clause-level : goal.named-returns-then-is_at_sign-2-clause-level
named-returns-then-is_at_sign-2-clause-level t c = level_struct _ _ _

pub values-more-init : goal.values-more-init
values-more-init t c = (
  joined_start _ _ _ (sign symbols.Comma) expression_leaves IsExpression c.in_ok-first.first _ c.push.new.self
      c.in_ok-first.ensures.read c.in_ok-first.ensures.is c.new-all.ensures c.in_ok-push.ensures.ok,
  commas_first some_expression c.in_ok-first.ensures.takes tt,
)

pub values-more-preserved : goal.values-more-preserved
values-more-preserved t c = (
  joined_again c.in_ok-next.next c.push-in-more.new.self c.more.invariant.0 c.in_ok-sign.ensures.read
      c.in_ok-next.ensures.read c.in_ok-next.ensures.is c.in_ok-push-2.ensures.ok,
  commas_next some_expression (c.is_at_sign.ensures.0 c.more-test.true) c.more.invariant.1
      c.in_ok-sign.ensures.takes c.in_ok-next.ensures.takes tt,
)

pub field_values-more-init : goal.field_values-more-init
field_values-more-init t c = (
  joined_start _ _ _ (sign symbols.Comma) field_value_leaves IsFieldValue c.in_ok-first.first _ c.push.new.self
      c.in_ok-first.ensures.read c.in_ok-first.ensures.is c.new-all.ensures c.in_ok-push.ensures.ok,
  commas_first some_field_value c.in_ok-first.ensures.takes tt,
)

pub field_values-more-preserved : goal.field_values-more-preserved
field_values-more-preserved t c = (
  joined_again c.in_ok-next.next c.push-in-more.new.self c.more.invariant.0 c.in_ok-sign.ensures.read
      c.in_ok-next.ensures.read c.in_ok-next.ensures.is c.in_ok-push-2.ensures.ok,
  commas_next some_field_value (c.is_at_sign.ensures.0 c.more-test.true) c.more.invariant.1
      c.in_ok-sign.ensures.takes c.in_ok-next.ensures.takes tt,
)

pub field_value-returns-clause-read : goal.field_value-returns-clause-read
field_value-returns-clause-read t c = as_leaves _ (leaves_field_value _ _)
    (c.in_ok-name.ensures.read then c.in_ok-sign.ensures.read then c.in_ok-value.ensures.read)

pub field_value-returns-clause-is : goal.field_value-returns-clause-is
field_value-returns-clause-is t c = is_field_value _ _ c.in_ok-name.ensures.is c.in_ok-value.ensures.is

pub arm-returns-clause-read : goal.arm-returns-clause-read
arm-returns-clause-read t c = as_leaves _ (leaves_arm _ _ _)
    (c.in_ok-place.ensures.read then c.in_ok-condition.ensures.read then c.in_ok-body.ensures.read)

pub arm-returns-clause-is : goal.arm-returns-clause-is
arm-returns-clause-is t c =
    is_arm _ _ _ c.in_ok-condition.ensures.is (omega (arith, c.in_ok-condition.ensures.level)) c.in_ok-body.ensures.is

pub binding-returns-clause-read : goal.binding-returns-clause-read
binding-returns-clause-read t c = as_leaves _ (leaves_let _ _)
    (c.in_ok-word.ensures.read then c.in_ok-name.ensures.read then c.in_ok-sign.ensures.read
    then c.in_ok-value.ensures.read then c.in_ok-sign-2.ensures.read)

pub binding-returns-clause-is : goal.binding-returns-clause-is
binding-returns-clause-is t c = is_let _ _ c.in_ok-name.ensures.is c.in_ok-value.ensures.is

pub binding-returns-clause-some : goal.binding-returns-clause-some
binding-returns-clause-some t c = shorter
    (c.in_ok-word.ensures.read then c.in_ok-name.ensures.read then c.in_ok-sign.ensures.read
    then c.in_ok-value.ensures.read then c.in_ok-sign-2.ensures.read)

pub block-returns-clause-read : goal.block-returns-clause-read
block-returns-clause-read t c = as_leaves _ (leaves_block _ _ _)
    (c.in_ok-place.ensures.read then c.in_ok-inside.ensures.read then c.in_ok-sign.ensures.read)

pub block-returns-clause-is : goal.block-returns-clause-is
block-returns-clause-is t c = is_block _ _ _ c.in_ok-inside.ensures.statements c.in_ok-inside.ensures.value

pub chain-returns-clause-read : goal.chain-returns-clause-read
chain-returns-clause-read t c = as_leaves _ (chain_expression _ _)
    (in_place_of expression_leaves c.in_ok-first.first c.in_ok-first.ensures c.in_ok-inside.ensures.read
    then c.in_ok-rest.ensures.read)

pub chain-returns-clause-is : goal.chain-returns-clause-is
chain-returns-clause-is t c = is_chain_of c.args.loosest c.in_ok-first.first c.in_ok-rest.rest c.in_ok-rest.ensures.some
    c.in_ok-rest.ensures.is (omega (arith, ap level c.in_ok-first.ensures, c.in_ok-inside.ensures.level))
    (subst IsExpression (sym c.in_ok-first.ensures) c.in_ok-inside.ensures.is)

pub chain-returns-clause-level : goal.chain-returns-clause-level
chain-returns-clause-level t c = omega (
  arith,
  level_chain_of c.args.loosest c.in_ok-first.first c.in_ok-rest.rest
      c.in_ok-rest.ensures.some c.in_ok-rest.ensures.is
      (omega (arith, ap level c.in_ok-first.ensures, c.in_ok-inside.ensures.level)),
)

pub operands-more-init : goal.operands-more-init
operands-more-init t c = (
  joined_start _ _ _ [] operand_leaves (IsOperandIn c.args.wanted) c.in_ok-first.first _ c.push.new.self
      c.in_ok-first.ensures.read c.in_ok-first.ensures.is c.new-all.ensures c.in_ok-push.ensures.ok,
  operands_start c.args.wanted c.requires.low c.requires.high past c.in_ok-first.ensures.takes by operands_apart c.args.wanted,
)

pub operands-more-preserved : goal.operands-more-preserved
operands-more-preserved t c = (
  joined_again c.in_ok-next.next c.push-in-more.new.self c.more.invariant.0 (nothing _ _ _ refl)
      c.in_ok-next.ensures.read c.in_ok-next.ensures.is c.in_ok-push-2.ensures.ok,
  operands_at c.args.wanted c.requires.low c.requires.high (c.is_at_operator.ensures.0 c.more-test.true) c.more.invariant.1
      past c.in_ok-next.ensures.takes by operands_apart c.args.wanted,
)

pub operands-returns-clause-read : goal.operands-returns-clause-read
operands-returns-clause-read t c =
    as_leaves _ (parts_after_another operand_leaves c.more.all) c.more.invariant.0.read

pub operand-returns-clause-read : goal.operand-returns-clause-read
operand-returns-clause-read t c =
    as_leaves _ (leaves_operand _ _) (c.in_ok-operator.ensures.read then c.in_ok-operand.ensures.read)

pub operand-returns-clause-is : goal.operand-returns-clause-is
operand-returns-clause-is t c = (
  is_operand _ _ c.in_ok-operand.ensures.is,
  is_operand_at c.args.wanted c.in_ok-operator.operator c.in_ok-operand.operand c.in_ok-operator.ensures.level
      (omega (arith, c.in_ok-operand.ensures.level)),
)

pub operand-returns-clause-some : goal.operand-returns-clause-some
operand-returns-clause-some t c = shorter (c.in_ok-operator.ensures.read then c.in_ok-operand.ensures.read)

pub unary-returns-clause-read : goal.unary-returns-clause-read
unary-returns-clause-read t c = as_leaves _ (leaves_unary _ _)
    (c.in_ok-prefixes.ensures.read
    then in_place_of expression_leaves c.in_ok-operand.operand c.in_ok-operand.ensures
    c.in_ok-inside.ensures.read)

pub unary-returns-clause-is : goal.unary-returns-clause-is
unary-returns-clause-is t c = is_unary _ _
    (subst IsExpression (sym c.in_ok-operand.ensures) c.in_ok-inside.ensures.is)
    (c.in_ok-prefixes.ensures.some, omega (arith, ap level c.in_ok-operand.ensures, c.in_ok-inside.ensures.level))

pub unary-returns-clause-level : goal.unary-returns-clause-level
unary-returns-clause-level t c = omega (arith, level_unary c.in_ok-prefixes.prefixes c.in_ok-operand.operand)

pub postfix-returns-clause-read : goal.postfix-returns-clause-read
postfix-returns-clause-read t c = as_leaves _ (leaves_postfix _ _)
    (in_place_of expression_leaves c.in_ok-primary.primary c.in_ok-primary.ensures c.in_ok-inside.ensures.read
    then c.in_ok-suffixes.ensures.read)

pub postfix-returns-clause-is : goal.postfix-returns-clause-is
postfix-returns-clause-is t c = is_postfix _ _
    (subst IsExpression (sym c.in_ok-primary.ensures) c.in_ok-inside.ensures.is) (
      omega (arith, ap level c.in_ok-primary.ensures, c.in_ok-inside.ensures.level),
      c.in_ok-suffixes.ensures.some,
      c.in_ok-suffixes.ensures.is,
    )

pub postfix-returns-clause-level : goal.postfix-returns-clause-level
postfix-returns-clause-level t c = omega (arith, level_postfix c.in_ok-primary.primary c.in_ok-suffixes.suffixes)

pub conditional-more-init : goal.conditional-more-init
conditional-more-init t c = (
  joined_start _ _ _ (word keywords.Else) arm_leaves IsArm c.in_ok-first.first _ c.push.new.self
      c.in_ok-first.ensures.read c.in_ok-first.ensures.is c.new-arms.ensures c.in_ok-push.ensures.ok,
  conditional_start past c.in_ok-first.ensures.takes,
)

pub conditional-more-preserved : goal.conditional-more-preserved
conditional-more-preserved t c = (
  joined_again c.in_ok-next.next c.push-in-more.new.self c.more.invariant.0 c.in_ok-word.ensures.read
      c.in_ok-next.ensures.read c.in_ok-next.ensures.is c.in_ok-push-2.ensures.ok,
  else_at (c.is_at_word.ensures.0 c.more-test.true) c.more.invariant.1 past c.in_ok-word.ensures.takes
      so else_arm (c.is_at_word-in-more.ensures.0 c.if-not-is_at_word.false) past c.in_ok-next.ensures.takes,
)

pub conditional-returns-clause-read : goal.conditional-returns-clause-read
conditional-returns-clause-read t c =
    as_leaves _ (if_expression c.more.arms None ∙ append-nil _) c.more.invariant.0.read

pub conditional-returns-clause-is : goal.conditional-returns-clause-is
conditional-returns-clause-is t c = is_if _ None c.more.invariant.0.is tt c.more.invariant.0.some

pub arguments-returns-then-is_at_sign-clause-read : goal.arguments-returns-then-is_at_sign-clause-read
unfolding with_between
arguments-returns-then-is_at_sign-clause-read t c = as_leaves _
    (ap (λ xs. commas (map expression_leaves xs)) c.new-none.ensures)
    (nothing c.args.self.now c.args.cursor.now c.args.cursor.now refl)

pub arguments-returns-then-is_at_sign-clause-is : goal.arguments-returns-then-is_at_sign-clause-is
arguments-returns-then-is_at_sign-clause-is t c =
    subst (λ xs. All IsExpression xs) (sym c.new-none.ensures) (All-nil IsExpression)

pub inside-returns-clause-read : goal.inside-returns-clause-read
inside-returns-clause-read t c =
    as_leaves _ (append-nil _ ∙ sym (all_of_map statement_leaves c.more.statements)) c.more.invariant.0.read

pub conditional-returns-then-not-is_at_word-clause-read : goal.conditional-returns-then-not-is_at_word-clause-read
conditional-returns-then-not-is_at_word-clause-read t c = as_leaves _ (if_expression _ (Some c.in_ok-last.last))
    (c.more.invariant.0.read then (c.in_ok-word.ensures.read then c.in_ok-last.ensures.read))

pub conditional-returns-then-not-is_at_word-clause-is : goal.conditional-returns-then-not-is_at_word-clause-is
conditional-returns-then-not-is_at_word-clause-is t c =
    is_if _ (Some c.in_ok-last.last) c.more.invariant.0.is c.in_ok-last.ensures.is c.more.invariant.0.some

pub inside-more-preserved-then-is_at_word : goal.inside-more-preserved-then-is_at_word
inside-more-preserved-then-is_at_word t c = (
  row_again c.in_ok-next.next c.push.new.self c.more.invariant.0 c.in_ok-next.ensures.read
      c.in_ok-next.ensures.is c.in_ok-push.ensures.ok,
  inside_let (not_so c.is_at_sign.ensures c.more-test.true) (c.is_at_word.ensures.0 c.if-is_at_word.true)
      c.more.invariant.1 past c.in_ok-next.ensures.takes,
)

pub inside-more-preserved : goal.inside-more-preserved
inside-more-preserved t c = (
  row_again (views.made-Do c.in_ok-found.found) c.push-in-more.new.self c.more.invariant.0
      (as_leaves _ (leaves_do _) (c.in_ok-found.ensures.read then c.in_ok-sign.ensures.read))
      (is_do _ c.in_ok-found.ensures.is) c.in_ok-push-2.ensures.ok,
  inside_expression (not_so c.is_at_sign.ensures c.more-test.true)
      (not_so c.is_at_word.ensures c.if-is_at_word.false) c.more.invariant.1
      past c.in_ok-found.ensures.takes by after_apart
      so after_at (c.is_at_sign-in-more.ensures.0 c.if-not-is_at_sign.false) past c.in_ok-sign.ensures.takes,
)

pub inside-returns-then-not-is_at_sign-clause-read : goal.inside-returns-then-not-is_at_sign-clause-read
inside-returns-then-not-is_at_sign-clause-read t c =
    as_leaves _ (sym (all_of_map statement_leaves c.more.statements)) c.more.invariant.0.read
    then in_place_of expression_leaves c.in_ok-last.last c.in_ok-last.ensures c.in_ok-found.ensures.read

pub inside-more-init : goal.inside-more-init
inside-more-init t c = (
  row_start _ _ _ statement_leaves IsStatement _ refl c.new-statements.ensures,
  inside_start,
)

pub arm-returns-in_err-place-clause-takes : goal.arm-returns-in_err-place-clause-takes
arm-returns-in_err-place-clause-takes t c = fails _ c.from_residual.ensures arm_start c.in_err-place.ensures.takes

pub arm-returns-in_err-condition-clause-takes : goal.arm-returns-in_err-condition-clause-takes
arm-returns-in_err-condition-clause-takes t c = fails_before _ c.from_residual-in_err-condition.ensures
    (arm_start past c.in_ok-place.ensures.takes) c.in_err-condition.ensures.takes (before_block 1 Any)

pub arm-returns-in_err-body-clause-takes : goal.arm-returns-in_err-body-clause-takes
arm-returns-in_err-body-clause-takes t c = fails_last _ c.from_residual-in_err-body.ensures
    (arm_start past c.in_ok-place.ensures.takes past c.in_ok-condition.ensures.takes by before_block 1 Any)
    c.in_err-body.ensures.takes

pub arm-returns-clause-takes : goal.arm-returns-clause-takes
arm-returns-clause-takes t c = last_part _
    (arm_start past c.in_ok-place.ensures.takes past c.in_ok-condition.ensures.takes by before_block 1 Any)
    c.in_ok-body.ensures.takes

pub block-returns-in_err-place-clause-takes : goal.block-returns-in_err-place-clause-takes
block-returns-in_err-place-clause-takes t c = fails _ c.from_residual.ensures block_start c.in_err-place.ensures.takes

pub block-returns-in_err-inside-clause-takes : goal.block-returns-in_err-inside-clause-takes
block-returns-in_err-inside-clause-takes t c = fails_before _ c.from_residual-in_err-inside.ensures
    (block_start past c.in_ok-place.ensures.takes) c.in_err-inside.ensures.takes right_brace

pub block-returns-in_err-sign-clause-takes : goal.block-returns-in_err-sign-clause-takes
block-returns-in_err-sign-clause-takes t c = fails_last _ c.from_residual-in_err-sign.ensures
    (block_start past c.in_ok-place.ensures.takes past c.in_ok-inside.ensures.takes by right_brace)
    c.in_err-sign.ensures.takes

pub block-returns-clause-takes : goal.block-returns-clause-takes
block-returns-clause-takes t c = last_part _
    (block_start past c.in_ok-place.ensures.takes past c.in_ok-inside.ensures.takes by right_brace)
    c.in_ok-sign.ensures.takes

pub binding-returns-in_err-word-clause-takes : goal.binding-returns-in_err-word-clause-takes
binding-returns-in_err-word-clause-takes t c = fails _ c.from_residual.ensures let_start c.in_err-word.ensures.takes

pub binding-returns-in_err-name-clause-takes : goal.binding-returns-in_err-name-clause-takes
binding-returns-in_err-name-clause-takes t c =
    fails _ c.from_residual-in_err-name.ensures (let_start past c.in_ok-word.ensures.takes) c.in_err-name.ensures.takes

pub binding-returns-in_err-sign-clause-takes : goal.binding-returns-in_err-sign-clause-takes
binding-returns-in_err-sign-clause-takes t c = fails _ c.from_residual-in_err-sign.ensures
    (let_start past c.in_ok-word.ensures.takes past c.in_ok-name.ensures.takes) c.in_err-sign.ensures.takes

pub binding-returns-in_err-value-clause-takes : goal.binding-returns-in_err-value-clause-takes
binding-returns-in_err-value-clause-takes t c = fails_before _ c.from_residual-in_err-value.ensures
    (let_start past c.in_ok-word.ensures.takes past c.in_ok-name.ensures.takes past c.in_ok-sign.ensures.takes)
    c.in_err-value.ensures.takes semicolon

pub binding-returns-in_err-sign-2-clause-takes : goal.binding-returns-in_err-sign-2-clause-takes
binding-returns-in_err-sign-2-clause-takes t c = fails_last _ c.from_residual-in_err-sign-2.ensures
    (let_start past c.in_ok-word.ensures.takes past c.in_ok-name.ensures.takes past c.in_ok-sign.ensures.takes
    past c.in_ok-value.ensures.takes by semicolon) c.in_err-sign-2.ensures.takes

pub binding-returns-clause-takes : goal.binding-returns-clause-takes
binding-returns-clause-takes t c = last_part _
    (let_start past c.in_ok-word.ensures.takes past c.in_ok-name.ensures.takes past c.in_ok-sign.ensures.takes
    past c.in_ok-value.ensures.takes by semicolon) c.in_ok-sign-2.ensures.takes

pub array-returns-in_err-place-clause-takes : goal.array-returns-in_err-place-clause-takes
array-returns-in_err-place-clause-takes t c = fails _ c.from_residual.ensures array_start c.in_err-place.ensures.takes

pub array-returns-in_err-elements-clause-takes : goal.array-returns-in_err-elements-clause-takes
array-returns-in_err-elements-clause-takes t c = fails_before _ c.from_residual-in_err-elements.ensures
    (array_start past c.in_ok-place.ensures.takes) c.in_err-elements.ensures.takes right_bracket

pub array-returns-in_err-sign-clause-takes : goal.array-returns-in_err-sign-clause-takes
array-returns-in_err-sign-clause-takes t c = fails_last _ c.from_residual-in_err-sign.ensures
    (array_start past c.in_ok-place.ensures.takes past c.in_ok-elements.ensures.takes by right_bracket)
    c.in_err-sign.ensures.takes

pub array-returns-clause-takes : goal.array-returns-clause-takes
array-returns-clause-takes t c = last_part _
    (array_start past c.in_ok-place.ensures.takes past c.in_ok-elements.ensures.takes by right_bracket)
    c.in_ok-sign.ensures.takes

pub parentheses-returns-in_err-place-clause-takes : goal.parentheses-returns-in_err-place-clause-takes
parentheses-returns-in_err-place-clause-takes t c =
    fails _ c.from_residual.ensures parentheses_start c.in_err-place.ensures.takes

pub parentheses-returns-in_err-inside-clause-takes : goal.parentheses-returns-in_err-inside-clause-takes
parentheses-returns-in_err-inside-clause-takes t c = fails_before _ c.from_residual-in_err-inside.ensures
    (parentheses_start past c.in_ok-place.ensures.takes) c.in_err-inside.ensures.takes right_parenthesis

pub parentheses-returns-in_err-sign-clause-takes : goal.parentheses-returns-in_err-sign-clause-takes
parentheses-returns-in_err-sign-clause-takes t c = fails_last _ c.from_residual-in_err-sign.ensures
    (parentheses_start past c.in_ok-place.ensures.takes past c.in_ok-inside.ensures.takes by right_parenthesis)
    c.in_err-sign.ensures.takes

pub parentheses-returns-clause-takes : goal.parentheses-returns-clause-takes
parentheses-returns-clause-takes t c = last_part _
    (parentheses_start past c.in_ok-place.ensures.takes past c.in_ok-inside.ensures.takes by right_parenthesis)
    c.in_ok-sign.ensures.takes

pub write-returns-in_err-place-clause-takes : goal.write-returns-in_err-place-clause-takes
write-returns-in_err-place-clause-takes t c = fails _ c.from_residual.ensures (write_start c.args.port)
    (takes_word c.write_word.ensures c.in_err-place.ensures.takes)

pub write-returns-in_err-sign-clause-takes : goal.write-returns-in_err-sign-clause-takes
write-returns-in_err-sign-clause-takes t c = fails _ c.from_residual-in_err-sign.ensures
    (write_start c.args.port past takes_word c.write_word.ensures c.in_ok-place.ensures.takes)
    c.in_err-sign.ensures.takes

pub write-returns-in_err-register-clause-takes : goal.write-returns-in_err-register-clause-takes
write-returns-in_err-register-clause-takes t c = fails _ c.from_residual-in_err-register.ensures
    (write_start c.args.port past takes_word c.write_word.ensures c.in_ok-place.ensures.takes
    past c.in_ok-sign.ensures.takes) c.in_err-register.ensures.takes

pub write-returns-in_err-sign-2-clause-takes : goal.write-returns-in_err-sign-2-clause-takes
write-returns-in_err-sign-2-clause-takes t c = fails _ c.from_residual-in_err-sign-2.ensures
    (write_start c.args.port past takes_word c.write_word.ensures c.in_ok-place.ensures.takes
    past c.in_ok-sign.ensures.takes past c.in_ok-register.ensures.takes) c.in_err-sign-2.ensures.takes

pub write-returns-in_err-value-clause-takes : goal.write-returns-in_err-value-clause-takes
write-returns-in_err-value-clause-takes t c = fails_before _ c.from_residual-in_err-value.ensures
    (write_start c.args.port past takes_word c.write_word.ensures c.in_ok-place.ensures.takes
    past c.in_ok-sign.ensures.takes past c.in_ok-register.ensures.takes past c.in_ok-sign-2.ensures.takes)
    c.in_err-value.ensures.takes right_parenthesis

pub write-returns-in_err-sign-3-clause-takes : goal.write-returns-in_err-sign-3-clause-takes
write-returns-in_err-sign-3-clause-takes t c = fails_last _ c.from_residual-in_err-sign-3.ensures
    (write_start c.args.port past takes_word c.write_word.ensures c.in_ok-place.ensures.takes
    past c.in_ok-sign.ensures.takes past c.in_ok-register.ensures.takes past c.in_ok-sign-2.ensures.takes
    past c.in_ok-value.ensures.takes by right_parenthesis) c.in_err-sign-3.ensures.takes

pub write-returns-clause-takes : goal.write-returns-clause-takes
write-returns-clause-takes t c = last_part _
    (write_start c.args.port past takes_word c.write_word.ensures c.in_ok-place.ensures.takes
    past c.in_ok-sign.ensures.takes past c.in_ok-register.ensures.takes past c.in_ok-sign-2.ensures.takes
    past c.in_ok-value.ensures.takes by right_parenthesis) c.in_ok-sign-3.ensures.takes

pub pack-returns-in_err-place-clause-takes : goal.pack-returns-in_err-place-clause-takes
pack-returns-in_err-place-clause-takes t c = fails _ c.from_residual.ensures pack_start c.in_err-place.ensures.takes

pub pack-returns-in_err-sign-clause-takes : goal.pack-returns-in_err-sign-clause-takes
pack-returns-in_err-sign-clause-takes t c = fails _ c.from_residual-in_err-sign.ensures
    (pack_start past c.in_ok-place.ensures.takes) c.in_err-sign.ensures.takes

pub pack-returns-in_err-value-clause-takes : goal.pack-returns-in_err-value-clause-takes
pack-returns-in_err-value-clause-takes t c = fails_before _ c.from_residual-in_err-value.ensures
    (pack_start past c.in_ok-place.ensures.takes past c.in_ok-sign.ensures.takes) c.in_err-value.ensures.takes
    right_parenthesis

pub pack-returns-in_err-sign-2-clause-takes : goal.pack-returns-in_err-sign-2-clause-takes
pack-returns-in_err-sign-2-clause-takes t c = fails_last _ c.from_residual-in_err-sign-2.ensures
    (pack_start past c.in_ok-place.ensures.takes past c.in_ok-sign.ensures.takes
    past c.in_ok-value.ensures.takes by right_parenthesis) c.in_err-sign-2.ensures.takes

pub pack-returns-clause-takes : goal.pack-returns-clause-takes
pack-returns-clause-takes t c = last_part _
    (pack_start past c.in_ok-place.ensures.takes past c.in_ok-sign.ensures.takes
    past c.in_ok-value.ensures.takes by right_parenthesis) c.in_ok-sign-2.ensures.takes

pub unpack-returns-in_err-place-clause-takes : goal.unpack-returns-in_err-place-clause-takes
unpack-returns-in_err-place-clause-takes t c = fails _ c.from_residual.ensures unpack_start c.in_err-place.ensures.takes

pub unpack-returns-in_err-sign-clause-takes : goal.unpack-returns-in_err-sign-clause-takes
unpack-returns-in_err-sign-clause-takes t c = fails _ c.from_residual-in_err-sign.ensures
    (unpack_start past c.in_ok-place.ensures.takes) c.in_err-sign.ensures.takes

pub unpack-returns-in_err-to-clause-takes : goal.unpack-returns-in_err-to-clause-takes
unpack-returns-in_err-to-clause-takes t c = fails _ c.from_residual-in_err-to.ensures
    (unpack_start past c.in_ok-place.ensures.takes past c.in_ok-sign.ensures.takes) c.in_err-to.ensures.takes

pub unpack-returns-in_err-sign-2-clause-takes : goal.unpack-returns-in_err-sign-2-clause-takes
unpack-returns-in_err-sign-2-clause-takes t c = fails _ c.from_residual-in_err-sign-2.ensures
    (unpack_start past c.in_ok-place.ensures.takes past c.in_ok-sign.ensures.takes past c.in_ok-to.ensures.takes)
    c.in_err-sign-2.ensures.takes

pub unpack-returns-in_err-value-clause-takes : goal.unpack-returns-in_err-value-clause-takes
unpack-returns-in_err-value-clause-takes t c = fails_before _ c.from_residual-in_err-value.ensures
    (unpack_start past c.in_ok-place.ensures.takes past c.in_ok-sign.ensures.takes past c.in_ok-to.ensures.takes
    past c.in_ok-sign-2.ensures.takes) c.in_err-value.ensures.takes right_parenthesis

pub unpack-returns-in_err-sign-3-clause-takes : goal.unpack-returns-in_err-sign-3-clause-takes
unpack-returns-in_err-sign-3-clause-takes t c = fails_last _ c.from_residual-in_err-sign-3.ensures
    (unpack_start past c.in_ok-place.ensures.takes past c.in_ok-sign.ensures.takes past c.in_ok-to.ensures.takes
    past c.in_ok-sign-2.ensures.takes past c.in_ok-value.ensures.takes by right_parenthesis)
    c.in_err-sign-3.ensures.takes

pub unpack-returns-clause-takes : goal.unpack-returns-clause-takes
unpack-returns-clause-takes t c = last_part _
    (unpack_start past c.in_ok-place.ensures.takes past c.in_ok-sign.ensures.takes past c.in_ok-to.ensures.takes
    past c.in_ok-sign-2.ensures.takes past c.in_ok-value.ensures.takes by right_parenthesis)
    c.in_ok-sign-3.ensures.takes

pub extend-returns-in_err-place-clause-takes : goal.extend-returns-in_err-place-clause-takes
extend-returns-in_err-place-clause-takes t c = fails _ c.from_residual.ensures (extend_start c.args.extension)
    (takes_word c.word.ensures c.in_err-place.ensures.takes)

pub extend-returns-in_err-sign-clause-takes : goal.extend-returns-in_err-sign-clause-takes
extend-returns-in_err-sign-clause-takes t c = fails _ c.from_residual-in_err-sign.ensures
    (extend_start c.args.extension past takes_word c.word.ensures c.in_ok-place.ensures.takes)
    c.in_err-sign.ensures.takes

pub extend-returns-in_err-value-clause-takes : goal.extend-returns-in_err-value-clause-takes
extend-returns-in_err-value-clause-takes t c = fails_before _ c.from_residual-in_err-value.ensures
    (extend_start c.args.extension past takes_word c.word.ensures c.in_ok-place.ensures.takes
    past c.in_ok-sign.ensures.takes) c.in_err-value.ensures.takes comma

pub extend-returns-in_err-sign-2-clause-takes : goal.extend-returns-in_err-sign-2-clause-takes
extend-returns-in_err-sign-2-clause-takes t c = fails _ c.from_residual-in_err-sign-2.ensures
    (extend_start c.args.extension past takes_word c.word.ensures c.in_ok-place.ensures.takes
    past c.in_ok-sign.ensures.takes past c.in_ok-value.ensures.takes by comma) c.in_err-sign-2.ensures.takes

pub extend-returns-in_err-width-clause-takes : goal.extend-returns-in_err-width-clause-takes
extend-returns-in_err-width-clause-takes t c = fails _ c.from_residual-in_err-width.ensures
    (extend_start c.args.extension past takes_word c.word.ensures c.in_ok-place.ensures.takes
    past c.in_ok-sign.ensures.takes past c.in_ok-value.ensures.takes by comma past c.in_ok-sign-2.ensures.takes)
    c.in_err-width.ensures.takes

pub extend-returns-in_err-sign-3-clause-takes : goal.extend-returns-in_err-sign-3-clause-takes
extend-returns-in_err-sign-3-clause-takes t c = fails_last _ c.from_residual-in_err-sign-3.ensures
    (extend_start c.args.extension past takes_word c.word.ensures c.in_ok-place.ensures.takes
    past c.in_ok-sign.ensures.takes past c.in_ok-value.ensures.takes by comma past c.in_ok-sign-2.ensures.takes
    past c.in_ok-width.ensures.takes) c.in_err-sign-3.ensures.takes

pub extend-returns-clause-takes : goal.extend-returns-clause-takes
extend-returns-clause-takes t c = last_part _
    (extend_start c.args.extension past takes_word c.word.ensures c.in_ok-place.ensures.takes
    past c.in_ok-sign.ensures.takes past c.in_ok-value.ensures.takes by comma past c.in_ok-sign-2.ensures.takes
    past c.in_ok-width.ensures.takes) c.in_ok-sign-3.ensures.takes

pub compare-returns-in_err-place-clause-takes : goal.compare-returns-in_err-place-clause-takes
compare-returns-in_err-place-clause-takes t c = fails _ c.from_residual.ensures (compare_start c.args.comparison)
    (takes_word c.word.ensures c.in_err-place.ensures.takes)

pub compare-returns-in_err-sign-clause-takes : goal.compare-returns-in_err-sign-clause-takes
compare-returns-in_err-sign-clause-takes t c = fails _ c.from_residual-in_err-sign.ensures
    (compare_start c.args.comparison past takes_word c.word.ensures c.in_ok-place.ensures.takes)
    c.in_err-sign.ensures.takes

pub compare-returns-in_err-left-clause-takes : goal.compare-returns-in_err-left-clause-takes
compare-returns-in_err-left-clause-takes t c = fails_before _ c.from_residual-in_err-left.ensures
    (compare_start c.args.comparison past takes_word c.word.ensures c.in_ok-place.ensures.takes
    past c.in_ok-sign.ensures.takes) c.in_err-left.ensures.takes comma

pub compare-returns-in_err-sign-2-clause-takes : goal.compare-returns-in_err-sign-2-clause-takes
compare-returns-in_err-sign-2-clause-takes t c = fails _ c.from_residual-in_err-sign-2.ensures
    (compare_start c.args.comparison past takes_word c.word.ensures c.in_ok-place.ensures.takes
    past c.in_ok-sign.ensures.takes past c.in_ok-left.ensures.takes by comma) c.in_err-sign-2.ensures.takes

pub compare-returns-in_err-right-clause-takes : goal.compare-returns-in_err-right-clause-takes
compare-returns-in_err-right-clause-takes t c = fails_before _ c.from_residual-in_err-right.ensures
    (compare_start c.args.comparison past takes_word c.word.ensures c.in_ok-place.ensures.takes
    past c.in_ok-sign.ensures.takes past c.in_ok-left.ensures.takes by comma past c.in_ok-sign-2.ensures.takes)
    c.in_err-right.ensures.takes right_parenthesis

pub compare-returns-in_err-sign-3-clause-takes : goal.compare-returns-in_err-sign-3-clause-takes
compare-returns-in_err-sign-3-clause-takes t c = fails_last _ c.from_residual-in_err-sign-3.ensures
    (compare_start c.args.comparison past takes_word c.word.ensures c.in_ok-place.ensures.takes
    past c.in_ok-sign.ensures.takes past c.in_ok-left.ensures.takes by comma past c.in_ok-sign-2.ensures.takes
    past c.in_ok-right.ensures.takes by right_parenthesis) c.in_err-sign-3.ensures.takes

pub compare-returns-clause-takes : goal.compare-returns-clause-takes
compare-returns-clause-takes t c = last_part _
    (compare_start c.args.comparison past takes_word c.word.ensures c.in_ok-place.ensures.takes
    past c.in_ok-sign.ensures.takes past c.in_ok-left.ensures.takes by comma past c.in_ok-sign-2.ensures.takes
    past c.in_ok-right.ensures.takes by right_parenthesis) c.in_ok-sign-3.ensures.takes

pub update-returns-in_err-place-clause-takes : goal.update-returns-in_err-place-clause-takes
update-returns-in_err-place-clause-takes t c = fails _ c.from_residual.ensures update_start c.in_err-place.ensures.takes

pub update-returns-in_err-sign-clause-takes : goal.update-returns-in_err-sign-clause-takes
update-returns-in_err-sign-clause-takes t c = fails _ c.from_residual-in_err-sign.ensures
    (update_start past c.in_ok-place.ensures.takes) c.in_err-sign.ensures.takes

pub update-returns-in_err-whole-clause-takes : goal.update-returns-in_err-whole-clause-takes
update-returns-in_err-whole-clause-takes t c = fails_before _ c.from_residual-in_err-whole.ensures
    (update_start past c.in_ok-place.ensures.takes past c.in_ok-sign.ensures.takes) c.in_err-whole.ensures.takes comma

pub update-returns-in_err-sign-2-clause-takes : goal.update-returns-in_err-sign-2-clause-takes
update-returns-in_err-sign-2-clause-takes t c = fails _ c.from_residual-in_err-sign-2.ensures
    (update_start past c.in_ok-place.ensures.takes past c.in_ok-sign.ensures.takes
    past c.in_ok-whole.ensures.takes by comma) c.in_err-sign-2.ensures.takes

pub update-returns-in_err-part-clause-takes : goal.update-returns-in_err-part-clause-takes
update-returns-in_err-part-clause-takes t c = fails _ c.from_residual-in_err-part.ensures
    (update_start past c.in_ok-place.ensures.takes past c.in_ok-sign.ensures.takes
    past c.in_ok-whole.ensures.takes by comma past c.in_ok-sign-2.ensures.takes) c.in_err-part.ensures.takes

pub update-returns-in_err-sign-3-clause-takes : goal.update-returns-in_err-sign-3-clause-takes
update-returns-in_err-sign-3-clause-takes t c = fails _ c.from_residual-in_err-sign-3.ensures
    (update_start past c.in_ok-place.ensures.takes past c.in_ok-sign.ensures.takes
    past c.in_ok-whole.ensures.takes by comma past c.in_ok-sign-2.ensures.takes past c.in_ok-part.ensures.takes)
    c.in_err-sign-3.ensures.takes

pub update-returns-in_err-value-clause-takes : goal.update-returns-in_err-value-clause-takes
update-returns-in_err-value-clause-takes t c = fails_before _ c.from_residual-in_err-value.ensures
    (update_start past c.in_ok-place.ensures.takes past c.in_ok-sign.ensures.takes
    past c.in_ok-whole.ensures.takes by comma past c.in_ok-sign-2.ensures.takes past c.in_ok-part.ensures.takes
    past c.in_ok-sign-3.ensures.takes) c.in_err-value.ensures.takes right_parenthesis

pub update-returns-in_err-sign-4-clause-takes : goal.update-returns-in_err-sign-4-clause-takes
update-returns-in_err-sign-4-clause-takes t c = fails_last _ c.from_residual-in_err-sign-4.ensures
    (update_start past c.in_ok-place.ensures.takes past c.in_ok-sign.ensures.takes
    past c.in_ok-whole.ensures.takes by comma past c.in_ok-sign-2.ensures.takes past c.in_ok-part.ensures.takes
    past c.in_ok-sign-3.ensures.takes past c.in_ok-value.ensures.takes by right_parenthesis)
    c.in_err-sign-4.ensures.takes

pub update-returns-clause-takes : goal.update-returns-clause-takes
update-returns-clause-takes t c = last_part _
    (update_start past c.in_ok-place.ensures.takes past c.in_ok-sign.ensures.takes
    past c.in_ok-whole.ensures.takes by comma past c.in_ok-sign-2.ensures.takes past c.in_ok-part.ensures.takes
    past c.in_ok-sign-3.ensures.takes past c.in_ok-value.ensures.takes by right_parenthesis)
    c.in_ok-sign-4.ensures.takes

pub field_value-returns-in_err-name-clause-takes : goal.field_value-returns-in_err-name-clause-takes
field_value-returns-in_err-name-clause-takes t c =
    fails _ c.from_residual.ensures field_value_start c.in_err-name.ensures.takes

pub field_value-returns-in_err-sign-clause-takes : goal.field_value-returns-in_err-sign-clause-takes
field_value-returns-in_err-sign-clause-takes t c = fails _ c.from_residual-in_err-sign.ensures
    (field_value_start past c.in_ok-name.ensures.takes) c.in_err-sign.ensures.takes

pub field_value-returns-in_err-value-clause-takes : goal.field_value-returns-in_err-value-clause-takes
field_value-returns-in_err-value-clause-takes t c = fails_last_as _ c.from_residual-in_err-value.ensures
    (field_value_start past c.in_ok-name.ensures.takes past c.in_ok-sign.ensures.takes) c.in_err-value.ensures.takes
    (λ v behind. behind)

pub field_value-returns-clause-takes : goal.field_value-returns-clause-takes
field_value-returns-clause-takes t c = last _
    (field_value_start past c.in_ok-name.ensures.takes past c.in_ok-sign.ensures.takes) c.in_ok-value.ensures.takes
    (λ v behind. behind)

pub boxed-returns-in_err-inside-clause-takes : goal.boxed-returns-in_err-inside-clause-takes
boxed-returns-in_err-inside-clause-takes t c =
    fails_last_as _ c.from_residual.ensures expression_start c.in_err-inside.ensures.takes (λ v behind. behind)

pub boxed-returns-clause-takes : goal.boxed-returns-clause-takes
boxed-returns-clause-takes t c = last _ expression_start c.in_ok-inside.ensures.takes (λ v behind. behind)

pub block_expression-returns-in_err-block-clause-takes : goal.block_expression-returns-in_err-block-clause-takes
block_expression-returns-in_err-block-clause-takes t c =
    fails_last _ c.from_residual.ensures block_primary_start c.in_err-block.ensures.takes

pub block_expression-returns-clause-takes : goal.block_expression-returns-clause-takes
block_expression-returns-clause-takes t c = last_part _ block_primary_start c.in_ok-block.ensures.takes

pub operand-returns-in_err-operator-clause-takes : goal.operand-returns-in_err-operator-clause-takes
operand-returns-in_err-operator-clause-takes t c = fails _ c.from_residual.ensures
    (operand_start c.args.wanted c.requires.low c.requires.high) c.in_err-operator.ensures.takes

pub operand-returns-in_err-operand-clause-takes : goal.operand-returns-in_err-operand-clause-takes
operand-returns-in_err-operand-clause-takes t c = fails_last_as _ c.from_residual-in_err-operand.ensures
    (operand_start c.args.wanted c.requires.low c.requires.high past c.in_ok-operator.ensures.takes)
    c.in_err-operand.ensures.takes (λ v behind. behind)

pub operand-returns-clause-takes : goal.operand-returns-clause-takes
operand-returns-clause-takes t c = last _
    (operand_start c.args.wanted c.requires.low c.requires.high past c.in_ok-operator.ensures.takes)
    c.in_ok-operand.ensures.takes (λ v behind. behind)

pub expression-returns-then-is_at_word-clause-takes : goal.expression-returns-then-is_at_word-clause-takes
expression-returns-then-is_at_word-clause-takes t c = tail c.conditional.result
    (expression_if (c.is_at_word.ensures.0 c.if-is_at_word.true)) c.conditional.ensures.takes (λ v behind. behind)

pub expression-returns-else-is_at_word-clause-takes : goal.expression-returns-else-is_at_word-clause-takes
expression-returns-else-is_at_word-clause-takes t c = tail c.chain.result
    (expression_chain (not_so c.is_at_word.ensures c.if-is_at_word.false)) c.chain.ensures.takes
    (λ v behind. free_more 0 1 (omega arith) (first v) behind)

pub chain-returns-then-loosest-gt-TIGHTEST-clause-takes : goal.chain-returns-then-loosest-gt-TIGHTEST-clause-takes
chain-returns-then-loosest-gt-TIGHTEST-clause-takes t c = subst
    (λ k. Takes c.args.self.now c.args.cursor.now c.unary.new.cursor (LevelWord k) (Free k) c.unary.result)
    (omega arith) c.unary.ensures.takes

pub chain-returns-in_err-inside-clause-takes : goal.chain-returns-in_err-inside-clause-takes
chain-returns-in_err-inside-clause-takes t c = fails_before _ c.from_residual.ensures
    (chain_start c.args.loosest c.requires.low (omega arith)) c.in_err-inside.ensures.takes
    (operands_apart c.args.loosest)

pub chain-returns-then-not-is_at_operator-clause-takes : goal.chain-returns-then-not-is_at_operator-clause-takes
chain-returns-then-not-is_at_operator-clause-takes t c = finish _
    (chain_go c.args.loosest c.requires.low (omega arith) c.in_ok-inside.ensures.takes
    so operands_end c.args.loosest (not_so c.is_at_operator.ensures c.if-not-is_at_operator.true))

pub chain-returns-in_err-rest-clause-takes : goal.chain-returns-in_err-rest-clause-takes
chain-returns-in_err-rest-clause-takes t c = fails_last_as _ c.from_residual-in_err-rest.ensures
    (operands_at c.args.loosest c.requires.low (omega arith) (c.is_at_operator.ensures.0 c.if-not-is_at_operator.false)
    (chain_go c.args.loosest c.requires.low (omega arith) c.in_ok-inside.ensures.takes)) c.in_err-rest.ensures.takes
    (λ v behind. behind)

pub chain-returns-clause-takes : goal.chain-returns-clause-takes
chain-returns-clause-takes t c = last _
    (operands_at c.args.loosest c.requires.low (omega arith) (c.is_at_operator.ensures.0 c.if-not-is_at_operator.false)
    (chain_go c.args.loosest c.requires.low (omega arith) c.in_ok-inside.ensures.takes)) c.in_ok-rest.ensures.takes
    (λ v behind. behind)

pub operands-returns-in_err-first-clause-takes : goal.operands-returns-in_err-first-clause-takes
operands-returns-in_err-first-clause-takes t c = fails_before _ c.from_residual.ensures
    (operands_start c.args.wanted c.requires.low c.requires.high) c.in_err-first.ensures.takes
    (operands_apart c.args.wanted)

pub operands-returns-in_err-next-clause-takes : goal.operands-returns-in_err-next-clause-takes
operands-returns-in_err-next-clause-takes t c = fails_before _ c.from_residual-in_err-next.ensures
    (operands_at c.args.wanted c.requires.low c.requires.high (c.is_at_operator.ensures.0 c.more-test.true)
    c.more.invariant.1) c.in_err-next.ensures.takes (operands_apart c.args.wanted)

pub operands-returns-clause-takes : goal.operands-returns-clause-takes
operands-returns-clause-takes t c =
    finish _ (operands_end c.args.wanted (not_so c.is_at_operator.ensures c.more-test.false) c.more.invariant.1)

pub conditional-returns-in_err-first-clause-takes : goal.conditional-returns-in_err-first-clause-takes
conditional-returns-in_err-first-clause-takes t c =
    fails _ c.from_residual.ensures conditional_start c.in_err-first.ensures.takes

pub conditional-returns-in_err-word-clause-takes : goal.conditional-returns-in_err-word-clause-takes
conditional-returns-in_err-word-clause-takes t c = fails _ c.from_residual-in_err-word.ensures
    (else_at (c.is_at_word.ensures.0 c.more-test.true) c.more.invariant.1) c.in_err-word.ensures.takes

pub conditional-returns-in_err-last-clause-takes : goal.conditional-returns-in_err-last-clause-takes
conditional-returns-in_err-last-clause-takes t c = fails_last _ c.from_residual-in_err-last.ensures
    (else_at (c.is_at_word.ensures.0 c.more-test.true) c.more.invariant.1 past c.in_ok-word.ensures.takes
    so else_block (not_so c.is_at_word-in-more.ensures c.if-not-is_at_word.true))
    c.in_err-last.ensures.takes

pub conditional-returns-then-not-is_at_word-clause-takes : goal.conditional-returns-then-not-is_at_word-clause-takes
conditional-returns-then-not-is_at_word-clause-takes t c = last_part _
    (else_at (c.is_at_word.ensures.0 c.more-test.true) c.more.invariant.1 past c.in_ok-word.ensures.takes
    so else_block (not_so c.is_at_word-in-more.ensures c.if-not-is_at_word.true))
    c.in_ok-last.ensures.takes

pub conditional-returns-in_err-next-clause-takes : goal.conditional-returns-in_err-next-clause-takes
conditional-returns-in_err-next-clause-takes t c = fails _ c.from_residual-in_err-next.ensures
    (else_at (c.is_at_word.ensures.0 c.more-test.true) c.more.invariant.1 past c.in_ok-word.ensures.takes
    so else_arm (c.is_at_word-in-more.ensures.0 c.if-not-is_at_word.false)) c.in_err-next.ensures.takes

pub conditional-returns-clause-takes : goal.conditional-returns-clause-takes
conditional-returns-clause-takes t c =
    finish _ (else_end (not_so c.is_at_word.ensures c.more-test.false) c.more.invariant.1)

pub inside-returns-in_err-next-clause-takes : goal.inside-returns-in_err-next-clause-takes
inside-returns-in_err-next-clause-takes t c = fails _ c.from_residual.ensures
    (inside_let (not_so c.is_at_sign.ensures c.more-test.true) (c.is_at_word.ensures.0 c.if-is_at_word.true)
    c.more.invariant.1) c.in_err-next.ensures.takes

pub inside-returns-in_err-found-clause-takes : goal.inside-returns-in_err-found-clause-takes
inside-returns-in_err-found-clause-takes t c = fails_before _ c.from_residual-in_err-found.ensures
    (inside_expression (not_so c.is_at_sign.ensures c.more-test.true)
    (not_so c.is_at_word.ensures c.if-is_at_word.false) c.more.invariant.1) c.in_err-found.ensures.takes after_apart

pub inside-returns-then-not-is_at_sign-clause-takes : goal.inside-returns-then-not-is_at_sign-clause-takes
inside-returns-then-not-is_at_sign-clause-takes t c = finish _
    (inside_expression (not_so c.is_at_sign.ensures c.more-test.true)
    (not_so c.is_at_word.ensures c.if-is_at_word.false) c.more.invariant.1
    past c.in_ok-found.ensures.takes by after_apart
    so after_end (not_so c.is_at_sign-in-more.ensures c.if-not-is_at_sign.true))

pub inside-returns-in_err-sign-clause-takes : goal.inside-returns-in_err-sign-clause-takes
inside-returns-in_err-sign-clause-takes t c = fails _ c.from_residual-in_err-sign.ensures
    (inside_expression (not_so c.is_at_sign.ensures c.more-test.true)
    (not_so c.is_at_word.ensures c.if-is_at_word.false) c.more.invariant.1
    past c.in_ok-found.ensures.takes by after_apart
    so after_at (c.is_at_sign-in-more.ensures.0 c.if-not-is_at_sign.false)) c.in_err-sign.ensures.takes

pub inside-returns-clause-takes : goal.inside-returns-clause-takes
inside-returns-clause-takes t c = finish _ (inside_end (c.is_at_sign.ensures.0 c.more-test.false) c.more.invariant.1)

pub unary-returns-then-not-is_at_prefix-clause-takes : goal.unary-returns-then-not-is_at_prefix-clause-takes
unary-returns-then-not-is_at_prefix-clause-takes t c = tail c.postfix.result
    (unary_end (not_so c.is_at_prefix.ensures c.if-not-is_at_prefix.true)) c.postfix.ensures.takes
    (λ v behind. free_more 10 11 (omega arith) (first v) behind)

pub unary-returns-in_err-prefixes-clause-takes : goal.unary-returns-in_err-prefixes-clause-takes
unary-returns-in_err-prefixes-clause-takes t c = fails_before _ c.from_residual.ensures
    (unary_at (c.is_at_prefix.ensures.0 c.if-not-is_at_prefix.false)) c.in_err-prefixes.ensures.takes
    (prefixes_apart (Free 10))

pub unary-returns-in_err-inside-clause-takes : goal.unary-returns-in_err-inside-clause-takes
unary-returns-in_err-inside-clause-takes t c = fails_last_as _ c.from_residual-in_err-inside.ensures
    (unary_at (c.is_at_prefix.ensures.0 c.if-not-is_at_prefix.false)
    past c.in_ok-prefixes.ensures.takes by prefixes_apart (Free 10)) c.in_err-inside.ensures.takes
    (λ v behind. free_more 10 11 (omega arith) (first v) behind)

pub unary-returns-clause-takes : goal.unary-returns-clause-takes
unary-returns-clause-takes t c = last _
    (unary_at (c.is_at_prefix.ensures.0 c.if-not-is_at_prefix.false)
    past c.in_ok-prefixes.ensures.takes by prefixes_apart (Free 10)) c.in_ok-inside.ensures.takes
    (λ v behind. free_more 10 11 (omega arith) (first v) behind)

pub postfix-returns-in_err-inside-clause-takes : goal.postfix-returns-in_err-inside-clause-takes
postfix-returns-in_err-inside-clause-takes t c =
    fails_before _ c.from_residual.ensures postfix_start c.in_err-inside.ensures.takes suffixes_apart

pub postfix-returns-then-not-is_at_suffix-clause-takes : goal.postfix-returns-then-not-is_at_suffix-clause-takes
postfix-returns-then-not-is_at_suffix-clause-takes t c = finish _
    (postfix_start past c.in_ok-inside.ensures.takes by suffixes_apart
    so suffixes_end (not_so c.is_at_suffix.ensures c.if-not-is_at_suffix.true))

pub postfix-returns-in_err-suffixes-clause-takes : goal.postfix-returns-in_err-suffixes-clause-takes
postfix-returns-in_err-suffixes-clause-takes t c = fails_last_as _ c.from_residual-in_err-suffixes.ensures
    (postfix_start past c.in_ok-inside.ensures.takes by suffixes_apart
    so suffixes_at (c.is_at_suffix.ensures.0 c.if-not-is_at_suffix.false)) c.in_err-suffixes.ensures.takes
    (λ v behind. behind)

pub postfix-returns-clause-takes : goal.postfix-returns-clause-takes
postfix-returns-clause-takes t c = last _
    (postfix_start past c.in_ok-inside.ensures.takes by suffixes_apart
    so suffixes_at (c.is_at_suffix.ensures.0 c.if-not-is_at_suffix.false)) c.in_ok-suffixes.ensures.takes
    (λ v behind. behind)

pub primary-returns-in-Some-clause-takes : goal.primary-returns-in-Some-clause-takes
primary-returns-in-Some-clause-takes t c = c.begun.ensures.takes

pub primary-returns-in-None-clause-takes : goal.primary-returns-in-None-clause-takes
primary-returns-in-None-clause-takes t c =
    primary_none (λ kind at u word. never_none (sym (sym c.peek.ensures ∙ c.in-None.is) ∙ at))

pub begun-returns-in-Literal-clause-takes : goal.begun-returns-in-Literal-clause-takes
begun-returns-in-Literal-clause-takes t c = tail c.literal_expression.result
    (literal_at c.in-Literal.field-0 (c.requires ∙ ap Some c.in-Literal.is)) c.literal_expression.ensures.takes
    (free_last (Free 12))

pub begun-returns-in-Name-clause-takes : goal.begun-returns-in-Name-clause-takes
begun-returns-in-Name-clause-takes t c =
    tail c.named.result (named_at (c.requires ∙ ap Some c.in-Name.is)) c.named.ensures.takes (λ v behind. behind)

pub begun-returns-in-Symbol-clause-takes : goal.begun-returns-in-Symbol-clause-takes
begun-returns-in-Symbol-clause-takes t c = c.bracketed.ensures.takes

pub begun-returns-in-Keyword-clause-takes : goal.begun-returns-in-Keyword-clause-takes
begun-returns-in-Keyword-clause-takes t c = c.keyword_primary.ensures.takes

pub begun-returns-in-Number-clause-takes : goal.begun-returns-in-Number-clause-takes
begun-returns-in-Number-clause-takes t c = primary_none (λ kind at u word.
    subst (λ k. PrimaryWord k u) (same_of_some (sym at ∙ c.requires ∙ ap Some c.in-Number.is)) word)

pub named-returns-in_err-name-clause-takes : goal.named-returns-in_err-name-clause-takes
named-returns-in_err-name-clause-takes t c = fails _ c.from_residual.ensures named_start c.in_err-name.ensures.takes

pub named-returns-in_err-sign-clause-takes : goal.named-returns-in_err-sign-clause-takes
named-returns-in_err-sign-clause-takes t c = fails _ c.from_residual-in_err-sign.ensures
    (named_start past c.in_ok-name.ensures.takes so named_call (c.is_at_sign.ensures.0 c.if-is_at_sign.true))
    c.in_err-sign.ensures.takes

pub named-returns-in_err-arguments-clause-takes : goal.named-returns-in_err-arguments-clause-takes
named-returns-in_err-arguments-clause-takes t c = fails_before _ c.from_residual-in_err-arguments.ensures
    (named_start past c.in_ok-name.ensures.takes so named_call (c.is_at_sign.ensures.0 c.if-is_at_sign.true)
    past c.in_ok-sign.ensures.takes) c.in_err-arguments.ensures.takes arguments_close

pub named-returns-in_err-sign-2-clause-takes : goal.named-returns-in_err-sign-2-clause-takes
named-returns-in_err-sign-2-clause-takes t c = fails_last _ c.from_residual-in_err-sign-2.ensures
    (named_start past c.in_ok-name.ensures.takes so named_call (c.is_at_sign.ensures.0 c.if-is_at_sign.true)
    past c.in_ok-sign.ensures.takes past c.in_ok-arguments.ensures.takes by arguments_close)
    c.in_err-sign-2.ensures.takes

pub named-returns-then-is_at_sign-clause-takes : goal.named-returns-then-is_at_sign-clause-takes
named-returns-then-is_at_sign-clause-takes t c = last_part _
    (named_start past c.in_ok-name.ensures.takes so named_call (c.is_at_sign.ensures.0 c.if-is_at_sign.true)
    past c.in_ok-sign.ensures.takes past c.in_ok-arguments.ensures.takes by arguments_close)
    c.in_ok-sign-2.ensures.takes

pub named-returns-in_err-sign-3-clause-takes : goal.named-returns-in_err-sign-3-clause-takes
named-returns-in_err-sign-3-clause-takes t c = fails _ c.from_residual-in_err-sign-3.ensures
    (named_start past c.in_ok-name.ensures.takes so named_colons (c.is_at_sign-2.ensures.0 c.if-is_at_sign-2.true))
    c.in_err-sign-3.ensures.takes

pub named-returns-in_err-member-clause-takes : goal.named-returns-in_err-member-clause-takes
named-returns-in_err-member-clause-takes t c = fails_last _ c.from_residual-in_err-member.ensures
    (named_start past c.in_ok-name.ensures.takes so named_colons (c.is_at_sign-2.ensures.0 c.if-is_at_sign-2.true)
    past c.in_ok-sign-3.ensures.takes so name_not_brace FieldValuesTail (c.is_at_name.ensures.0 c.if-is_at_name.true))
    c.in_err-member.ensures.takes

pub named-returns-then-is_at_name-clause-takes : goal.named-returns-then-is_at_name-clause-takes
named-returns-then-is_at_name-clause-takes t c = last_part _
    (named_start past c.in_ok-name.ensures.takes so named_colons (c.is_at_sign-2.ensures.0 c.if-is_at_sign-2.true)
    past c.in_ok-sign-3.ensures.takes so name_not_brace FieldValuesTail (c.is_at_name.ensures.0 c.if-is_at_name.true))
    c.in_ok-member.ensures.takes

pub named-returns-in_err-sign-4-clause-takes : goal.named-returns-in_err-sign-4-clause-takes
named-returns-in_err-sign-4-clause-takes t c = fails _ c.from_residual-in_err-sign-4.ensures
    (named_start past c.in_ok-name.ensures.takes so named_colons (c.is_at_sign-2.ensures.0 c.if-is_at_sign-2.true)
    past c.in_ok-sign-3.ensures.takes
    so brace_not_name FieldValuesTail (not_so c.is_at_name.ensures c.if-is_at_name.false) some_field_values_tail)
    c.in_err-sign-4.ensures.takes

pub named-returns-in_err-fields-clause-takes : goal.named-returns-in_err-fields-clause-takes
named-returns-in_err-fields-clause-takes t c = fails_before _ c.from_residual-in_err-fields.ensures
    (named_start past c.in_ok-name.ensures.takes so named_colons (c.is_at_sign-2.ensures.0 c.if-is_at_sign-2.true)
    past c.in_ok-sign-3.ensures.takes
    so brace_not_name FieldValuesTail (not_so c.is_at_name.ensures c.if-is_at_name.false) some_field_values_tail
    past c.in_ok-sign-4.ensures.takes) c.in_err-fields.ensures.takes fields_close

pub named-returns-in_err-close-clause-takes : goal.named-returns-in_err-close-clause-takes
named-returns-in_err-close-clause-takes t c = fails_last _ c.from_residual-in_err-close.ensures
    (named_start past c.in_ok-name.ensures.takes so named_colons (c.is_at_sign-2.ensures.0 c.if-is_at_sign-2.true)
    past c.in_ok-sign-3.ensures.takes
    so brace_not_name FieldValuesTail (not_so c.is_at_name.ensures c.if-is_at_name.false) some_field_values_tail
    past c.in_ok-sign-4.ensures.takes past c.in_ok-fields.ensures.takes by fields_close) c.in_err-close.ensures.takes

pub named-returns-then-is_at_sign-2-clause-takes : goal.named-returns-then-is_at_sign-2-clause-takes
named-returns-then-is_at_sign-2-clause-takes t c = last_part _
    (named_start past c.in_ok-name.ensures.takes so named_colons (c.is_at_sign-2.ensures.0 c.if-is_at_sign-2.true)
    past c.in_ok-sign-3.ensures.takes
    so brace_not_name FieldValuesTail (not_so c.is_at_name.ensures c.if-is_at_name.false) some_field_values_tail
    past c.in_ok-sign-4.ensures.takes past c.in_ok-fields.ensures.takes by fields_close) c.in_ok-close.ensures.takes

pub named-returns-clause-takes : goal.named-returns-clause-takes
named-returns-clause-takes t c = finish _
    (named_start past c.in_ok-name.ensures.takes
    so named_end (not_so c.is_at_sign.ensures c.if-is_at_sign.false)
    (not_so c.is_at_sign-2.ensures c.if-is_at_sign-2.false))

pub arguments-returns-then-is_at_sign-clause-takes : goal.arguments-returns-then-is_at_sign-clause-takes
arguments-returns-then-is_at_sign-clause-takes t c =
    finish _ (arguments_end (c.is_at_sign.ensures.0 c.if-is_at_sign.true))

pub arguments-returns-clause-takes : goal.arguments-returns-clause-takes
arguments-returns-clause-takes t c = tail c.values.result
    (arguments_at (not_so c.is_at_sign.ensures c.if-is_at_sign.false)) c.values.ensures.takes
    (λ v behind. parenthesis_free (first v) behind)

pub values-returns-in_err-first-clause-takes : goal.values-returns-in_err-first-clause-takes
values-returns-in_err-first-clause-takes t c = fails_before _ c.from_residual.ensures (commas_start some_expression)
    c.in_err-first.ensures.takes (commas_apart some_expression (Free 0) tt)

pub values-returns-in_err-sign-clause-takes : goal.values-returns-in_err-sign-clause-takes
values-returns-in_err-sign-clause-takes t c = fails _ c.from_residual-in_err-sign.ensures
    (commas_at some_expression (c.is_at_sign.ensures.0 c.more-test.true) c.more.invariant.1)
    c.in_err-sign.ensures.takes

pub values-returns-in_err-next-clause-takes : goal.values-returns-in_err-next-clause-takes
values-returns-in_err-next-clause-takes t c = fails_before _ c.from_residual-in_err-next.ensures
    (commas_at some_expression (c.is_at_sign.ensures.0 c.more-test.true) c.more.invariant.1
    past c.in_ok-sign.ensures.takes) c.in_err-next.ensures.takes (commas_apart some_expression (Free 0) tt)

pub values-returns-clause-takes : goal.values-returns-clause-takes
values-returns-clause-takes t c =
    finish _ (commas_end some_expression (not_so c.is_at_sign.ensures c.more-test.false) c.more.invariant.1)

pub field_values-returns-in_err-first-clause-takes : goal.field_values-returns-in_err-first-clause-takes
field_values-returns-in_err-first-clause-takes t c = fails_before _ c.from_residual.ensures
    (commas_start some_field_value) c.in_err-first.ensures.takes (commas_apart some_field_value (Free 0) tt)

pub field_values-returns-in_err-sign-clause-takes : goal.field_values-returns-in_err-sign-clause-takes
field_values-returns-in_err-sign-clause-takes t c = fails _ c.from_residual-in_err-sign.ensures
    (commas_at some_field_value (c.is_at_sign.ensures.0 c.more-test.true) c.more.invariant.1)
    c.in_err-sign.ensures.takes

pub field_values-returns-in_err-next-clause-takes : goal.field_values-returns-in_err-next-clause-takes
field_values-returns-in_err-next-clause-takes t c = fails_before _ c.from_residual-in_err-next.ensures
    (commas_at some_field_value (c.is_at_sign.ensures.0 c.more-test.true) c.more.invariant.1
    past c.in_ok-sign.ensures.takes) c.in_err-next.ensures.takes (commas_apart some_field_value (Free 0) tt)

pub field_values-returns-clause-takes : goal.field_values-returns-clause-takes
field_values-returns-clause-takes t c =
    finish _ (commas_end some_field_value (not_so c.is_at_sign.ensures c.more-test.false) c.more.invariant.1)

pub bracketed-returns-in-LeftBracket-clause-takes : goal.bracketed-returns-in-LeftBracket-clause-takes
bracketed-returns-in-LeftBracket-clause-takes t c = symbol_at symbols.LeftBracket some_array array_primary
    (c.requires ∙ ap (λ s. Some (kinds.Symbol s)) c.in-LeftBracket.is) c.array.ensures.takes

pub bracketed-returns-in-LeftParenthesis-clause-takes : goal.bracketed-returns-in-LeftParenthesis-clause-takes
bracketed-returns-in-LeftParenthesis-clause-takes t c = symbol_at symbols.LeftParenthesis some_parentheses
    parentheses_primary (c.requires ∙ ap (λ s. Some (kinds.Symbol s)) c.in-LeftParenthesis.is)
    c.parentheses.ensures.takes

pub bracketed-returns-in-LeftBrace-clause-takes : goal.bracketed-returns-in-LeftBrace-clause-takes
bracketed-returns-in-LeftBrace-clause-takes t c = symbol_at symbols.LeftBrace some_block block_primary
    (c.requires ∙ ap (λ s. Some (kinds.Symbol s)) c.in-LeftBrace.is) c.block_expression.ensures.takes

pub bracketed-returns-in_default-clause-takes : goal.bracketed-returns-in_default-clause-takes
bracketed-returns-in_default-clause-takes t c = symbol_refused c.args.begin c.in_default.not-LeftBracket
    c.in_default.not-LeftParenthesis c.in_default.not-LeftBrace c.requires

pub keyword_primary-returns-in-Read0-clause-takes : goal.keyword_primary-returns-in-Read0-clause-takes
keyword_primary-returns-in-Read0-clause-takes t c =
    begun_by c.requires c.in-Read0.is (some_read 0) (read_primary 0 (omega arith)) c.read.ensures.takes

pub keyword_primary-returns-in-Read1-clause-takes : goal.keyword_primary-returns-in-Read1-clause-takes
keyword_primary-returns-in-Read1-clause-takes t c =
    begun_by c.requires c.in-Read1.is (some_read 1) (read_primary 1 (omega arith)) c.read-in-Read1.ensures.takes

pub keyword_primary-returns-in-Read2-clause-takes : goal.keyword_primary-returns-in-Read2-clause-takes
keyword_primary-returns-in-Read2-clause-takes t c =
    begun_by c.requires c.in-Read2.is (some_read 2) (read_primary 2 (omega arith)) c.read-in-Read2.ensures.takes

pub keyword_primary-returns-in-Read3-clause-takes : goal.keyword_primary-returns-in-Read3-clause-takes
keyword_primary-returns-in-Read3-clause-takes t c =
    begun_by c.requires c.in-Read3.is (some_read 3) (read_primary 3 (omega arith)) c.read-in-Read3.ensures.takes

pub keyword_primary-returns-in-Write0-clause-takes : goal.keyword_primary-returns-in-Write0-clause-takes
keyword_primary-returns-in-Write0-clause-takes t c =
    begun_by c.requires c.in-Write0.is (some_write 0) (write_primary 0 (omega arith)) c.write.ensures.takes

pub keyword_primary-returns-in-Write1-clause-takes : goal.keyword_primary-returns-in-Write1-clause-takes
keyword_primary-returns-in-Write1-clause-takes t c =
    begun_by c.requires c.in-Write1.is (some_write 1) (write_primary 1 (omega arith)) c.write-in-Write1.ensures.takes

pub keyword_primary-returns-in-Write2-clause-takes : goal.keyword_primary-returns-in-Write2-clause-takes
keyword_primary-returns-in-Write2-clause-takes t c =
    begun_by c.requires c.in-Write2.is (some_write 2) (write_primary 2 (omega arith)) c.write-in-Write2.ensures.takes

pub keyword_primary-returns-in-Write3-clause-takes : goal.keyword_primary-returns-in-Write3-clause-takes
keyword_primary-returns-in-Write3-clause-takes t c =
    begun_by c.requires c.in-Write3.is (some_write 3) (write_primary 3 (omega arith)) c.write-in-Write3.ensures.takes

pub keyword_primary-returns-in-Abort-clause-takes : goal.keyword_primary-returns-in-Abort-clause-takes
keyword_primary-returns-in-Abort-clause-takes t c =
    begun_by c.requires c.in-Abort.is (some_one (keyword keywords.Abort)) abort_primary c.abort.ensures.takes

pub keyword_primary-returns-in-Pack-clause-takes : goal.keyword_primary-returns-in-Pack-clause-takes
keyword_primary-returns-in-Pack-clause-takes t c =
    begun_by c.requires c.in-Pack.is some_pack pack_primary c.pack.ensures.takes

pub keyword_primary-returns-in-Unpack-clause-takes : goal.keyword_primary-returns-in-Unpack-clause-takes
keyword_primary-returns-in-Unpack-clause-takes t c =
    begun_by c.requires c.in-Unpack.is some_unpack unpack_primary c.unpack.ensures.takes

pub keyword_primary-returns-in-Zext-clause-takes : goal.keyword_primary-returns-in-Zext-clause-takes
keyword_primary-returns-in-Zext-clause-takes t c = begun_by c.requires c.in-Zext.is (some_extend extensions.Zero)
    (extend_primary extensions.Zero) c.extend.ensures.takes

pub keyword_primary-returns-in-Sext-clause-takes : goal.keyword_primary-returns-in-Sext-clause-takes
keyword_primary-returns-in-Sext-clause-takes t c = begun_by c.requires c.in-Sext.is (some_extend extensions.Sign)
    (extend_primary extensions.Sign) c.extend-in-Sext.ensures.takes

pub keyword_primary-returns-in-Slt-clause-takes : goal.keyword_primary-returns-in-Slt-clause-takes
keyword_primary-returns-in-Slt-clause-takes t c = begun_by c.requires c.in-Slt.is (some_compare comparisons.Less)
    (compare_primary comparisons.Less) c.compare.ensures.takes

pub keyword_primary-returns-in-Sle-clause-takes : goal.keyword_primary-returns-in-Sle-clause-takes
keyword_primary-returns-in-Sle-clause-takes t c = begun_by c.requires c.in-Sle.is (some_compare comparisons.LessOrEqual)
    (compare_primary comparisons.LessOrEqual) c.compare-in-Sle.ensures.takes

pub keyword_primary-returns-in-Sgt-clause-takes : goal.keyword_primary-returns-in-Sgt-clause-takes
keyword_primary-returns-in-Sgt-clause-takes t c = begun_by c.requires c.in-Sgt.is (some_compare comparisons.Greater)
    (compare_primary comparisons.Greater) c.compare-in-Sgt.ensures.takes

pub keyword_primary-returns-in-Sge-clause-takes : goal.keyword_primary-returns-in-Sge-clause-takes
keyword_primary-returns-in-Sge-clause-takes t c = begun_by c.requires c.in-Sge.is
    (some_compare comparisons.GreaterOrEqual) (compare_primary comparisons.GreaterOrEqual)
    c.compare-in-Sge.ensures.takes

pub keyword_primary-returns-in-Update-clause-takes : goal.keyword_primary-returns-in-Update-clause-takes
keyword_primary-returns-in-Update-clause-takes t c =
    begun_by c.requires c.in-Update.is some_update update_primary c.update.ensures.takes

pub keyword_primary-returns-in_default-clause-takes : goal.keyword_primary-returns-in_default-clause-takes
keyword_primary-returns-in_default-clause-takes t c = keyword_refused c.args.keyword
    (other_keyword c.args.keyword c.in_default.not-Read0 c.in_default.not-Read1 c.in_default.not-Read2
    c.in_default.not-Read3 c.in_default.not-Write0 c.in_default.not-Write1 c.in_default.not-Write2
    c.in_default.not-Write3 c.in_default.not-Abort c.in_default.not-Pack c.in_default.not-Unpack c.in_default.not-Zext
    c.in_default.not-Sext c.in_default.not-Slt c.in_default.not-Sle c.in_default.not-Sgt c.in_default.not-Sge
    c.in_default.not-Update) c.requires
