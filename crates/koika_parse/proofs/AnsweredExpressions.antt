-- Reading an expression comes to an end: its primaries, suffixes, prefixes, chains of each level, blocks and `if`.
use Rattle.std.proofs.Common.{◌≡◌, ℕ, zero, suc, ◌+◌, ◌<◌, ◌≤◌, Bool, true, false, Option, None, Some, List, [], ◌++◌, inl, inr, refl, sym, ap, ◌∙◌, subst, arith}
use Rattle.std.specs.Prelude.{◌⊎◌}
use Rattle.std.specs.List.{All}
use Rattle.std.proofs.lemmas.Bool.{false≢true}
use Rattle.koika_syntax.specs.Grammar.{level_of, suffix_leaves}
use Rattle.koika_syntax.specs.inner.Grammar.{arm_leaves, operand_leaves}
use Rattle.koika_syntax.specs.Tokens.{StandsIn}
use Rattle.koika_syntax.specs.Tree.{Leaf, Terminal, binary_symbol, keyword, symbol, unary_symbol}
use Rattle.koika_syntax.specs.declared.keyword.Keyword.{Keyword}
use Rattle.koika_syntax.specs.declared.keyword.Keyword.TheVariants as keywords
use Rattle.koika_syntax.specs.declared.operator.BinaryOperator.{BinaryOperator}
use Rattle.koika_syntax.specs.declared.operator.BinaryOperator.TheVariants as binary
use Rattle.koika_syntax.specs.declared.operator.Extension.{Extension}
use Rattle.koika_syntax.specs.declared.operator.Extension.TheVariants as extensions
use Rattle.koika_syntax.specs.declared.operator.SignedComparison.{SignedComparison}
use Rattle.koika_syntax.specs.declared.operator.SignedComparison.TheVariants as comparisons
use Rattle.koika_syntax.specs.declared.operator.UnaryOperator.{UnaryOperator}
use Rattle.koika_syntax.specs.declared.operator.UnaryOperator.TheVariants as unary
use Rattle.koika_syntax.specs.declared.symbol.Symbol.{Symbol}
use Rattle.koika_syntax.specs.declared.symbol.Symbol.TheVariants as symbols
use Rattle.koika_syntax.specs.declared.token.TokenKind.{TokenKind}
use Rattle.koika_syntax.specs.declared.token.TokenKind.TheVariants as kinds
use Rattle.koika_syntax.specs.declared.tree.Suffix.{Suffix}
use Rattle.koika_syntax.specs.declared.tree.Suffix.TheVariants as suffixes
use Rattle.koika_parse.specs.inner.Expected.{Any, One, Part, Then, first}
use Rattle.koika_parse.specs.inner.ExpressionWords.{ArgumentsWord, ArrayWord, CompareWord, ConditionalWord, ExtendWord}
use Rattle.koika_parse.specs.inner.ExpressionWords.{Free, InsideWord, IsAtOperator, IsAtPrefix, IsAtSuffix, LetWord}
use Rattle.koika_parse.specs.inner.ExpressionWords.{LevelWord, NamedWord, OneBlock, OneFieldValue, OnePart, OneSuffix}
use Rattle.koika_parse.specs.inner.ExpressionWords.{PackWord, ParenthesesWord, PrefixWord, PrefixesWord, ReadWord}
use Rattle.koika_parse.specs.inner.ExpressionWords.{UnpackWord, UpdateWord, WriteWord, brace_follows, no_prefix}
use Rattle.koika_parse.specs.inner.ExpressionWords.{parenthesis_follows, holds}
use Rattle.koika_parse.specs.inner.Parts.{IsArm, IsOperandIn}
use Rattle.koika_parse.specs.inner.Reading.{kind_at, next}
use Rattle.koika_parse.specs.declared.cursor.Cursor.{Cursor}
use Rattle.koika_parse.specs.declared.source.Source.{Source}
use Rattle.koika_parse.proofs.Answered.{Answered, Decided, Fewer, Further, HasToken, any_last, any_then, by_case}
use Rattle.koika_parse.proofs.Answered.{by_tokens, decide_as, decide_named, decide_next, decide_number, none_left}
use Rattle.koika_parse.proofs.Answered.{one_last, one_then, part_last, part_more, part_then, symbol_or, unexpected}
use Rattle.koika_parse.proofs.AnsweredParts.{closed_answered, commas_answered, literal_answered, name_answered, number_answered, type_answered}
use Rattle.koika_parse.proofs.BlockWords.{ElseGo, InsideGo, after_apart, after_at, after_end}
use Rattle.koika_parse.proofs.BlockWords.{arm_start, before_block, block_start, conditional_start, else_arm, else_at}
use Rattle.koika_parse.proofs.BlockWords.{else_block, else_end, expression_chain, expression_if, field_value_start}
use Rattle.koika_parse.proofs.BlockWords.{inside_end, inside_expression, inside_let, inside_start, let_start}
use Rattle.koika_parse.proofs.ChainWords.{MorePrefixes, MoreSuffixes, OperandsGo, chain_start}
use Rattle.koika_parse.proofs.ChainWords.{free_more, holds_operator, index_at, operand_first, operand_start}
use Rattle.koika_parse.proofs.ChainWords.{operands_apart, operands_at, operands_end, operator_at, postfix_start}
use Rattle.koika_parse.proofs.ChainWords.{prefix_at_sign, prefixes_apart, prefixes_at, prefixes_end, prefixes_start}
use Rattle.koika_parse.proofs.ChainWords.{slice_at, suffix_bracket, suffix_dot, suffixes_apart, suffixes_at}
use Rattle.koika_parse.proofs.ChainWords.{suffixes_end, unary_at, unary_end}
use Rattle.koika_parse.proofs.Expected.{Has, Within, Language, Lookahead, Language, Goes, before_one, before_one_then, free, never_none, same_of_some}
use Rattle.koika_parse.proofs.ExpressionWords.{OneExpression, PrimaryWord}
use Rattle.koika_parse.proofs.MadeExpressions.{abort_primary, array_primary, block_primary, compare_primary}
use Rattle.koika_parse.proofs.MadeExpressions.{extend_primary, pack_primary, parentheses_primary, read_primary}
use Rattle.koika_parse.proofs.MadeExpressions.{unpack_primary, update_primary, write_primary}
use Rattle.koika_parse.proofs.PrimaryWords.{FieldValuesTail, arguments_at, arguments_end, array_start, compare_start}
use Rattle.koika_parse.proofs.PrimaryWords.{extend_start, some_field_value, literal_at, named_at}
use Rattle.koika_parse.proofs.PrimaryWords.{named_call, named_colons, named_end, named_start, pack_start}
use Rattle.koika_parse.proofs.PrimaryWords.{parentheses_start, parenthesis_free, part_name, part_number, primary_at}
use Rattle.koika_parse.proofs.PrimaryWords.{primary_none, read_start, some_array, some_compare, some_extend}
use Rattle.koika_parse.proofs.PrimaryWords.{some_field_values_tail, some_pack, some_parentheses, some_read, some_unpack}
use Rattle.koika_parse.proofs.PrimaryWords.{some_update, some_write, unpack_start, update_start, write_start}
use Rattle.koika_parse.proofs.Rows.{brace_not_name, first_one, name_not_brace}
use Rattle.koika_parse.proofs.Expected.{some_one}
use Rattle.koika_parse.proofs.Witnesses.{some_block, some_expression}

-- the operator between two operands that a symbol is
is_operator : Symbol → Bool
is_operator symbols.Bar = true
is_operator symbols.Caret = true
is_operator symbols.Ampersand = true
is_operator symbols.EqualsEquals = true
is_operator symbols.NotEquals = true
is_operator symbols.Less = true
is_operator symbols.LessEquals = true
is_operator symbols.Greater = true
is_operator symbols.GreaterEquals = true
is_operator symbols.PlusPlus = true
is_operator symbols.LessLess = true
is_operator symbols.GreaterGreater = true
is_operator symbols.GreaterGreaterGreater = true
is_operator symbols.Plus = true
is_operator symbols.Minus = true
is_operator symbols.Star = true
is_operator _ = false

operator_is : (operator : BinaryOperator) → is_operator (binary_symbol operator) ≡ true
unfolding is_operator
operator_is binary.Or = refl
operator_is _ = refl

operator_of : (s : Symbol) → ((operator : BinaryOperator) × (s ≡ binary_symbol operator)) ⊎ ((operator : BinaryOperator) → s ≡ binary_symbol operator → ⊥)
unfolding is_operator
operator_of symbols.Bar = inl (binary.Or, refl)
operator_of symbols.Caret = inl (binary.Xor, refl)
operator_of symbols.Ampersand = inl (binary.And, refl)
operator_of symbols.EqualsEquals = inl (binary.Equal, refl)
operator_of symbols.NotEquals = inl (binary.NotEqual, refl)
operator_of symbols.Less = inl (binary.Less, refl)
operator_of symbols.LessEquals = inl (binary.LessOrEqual, refl)
operator_of symbols.Greater = inl (binary.Greater, refl)
operator_of symbols.GreaterEquals = inl (binary.GreaterOrEqual, refl)
operator_of symbols.PlusPlus = inl (binary.Concat, refl)
operator_of symbols.LessLess = inl (binary.ShiftLeft, refl)
operator_of symbols.GreaterGreater = inl (binary.ShiftRight, refl)
operator_of symbols.GreaterGreaterGreater = inl (binary.ShiftRightSigned, refl)
operator_of symbols.Plus = inl (binary.Add, refl)
operator_of symbols.Minus = inl (binary.Subtract, refl)
operator_of symbols.Star = inl (binary.Multiply, refl)
operator_of s = inr (λ operator e. false≢true (ap is_operator e ∙ operator_is operator))

-- whether an operator of a level, an operator in front of an operand, or a suffix is next
decide_operator : (source : Source) (cursor : Cursor) (k : ℕ) → Decided (IsAtOperator source cursor k)
decide_operator source cursor k = of (next source cursor)
  where
    At : Option Terminal → Type 0
    At o = (operator : BinaryOperator) × (level_of operator ≡ k) × (o ≡ Some (symbol (binary_symbol operator)))

    same_level : (a b : BinaryOperator) → binary_symbol a ≡ binary_symbol b → level_of a ≡ level_of b
    same_level a b e = same_of_some (sym (holds_operator a) ∙ ap holds e ∙ holds_operator b)

    symbol_of : {a b : Symbol} → Some (symbol a) ≡ Some (symbol b) → a ≡ b
    symbol_of e = ap symbol_or (same_of_some e)

    of_symbol : (s : Symbol) → ((operator : BinaryOperator) × (s ≡ binary_symbol operator)) ⊎ ((operator : BinaryOperator) → s ≡ binary_symbol operator → ⊥) → Decided (At (Some (symbol s)))
    of_symbol s (inl found) =
        decide_as (decide_number (level_of found.0) k) (λ level. (found.0, level, ap (λ t. Some (symbol t)) found.1))
        (λ at. same_level found.0 at.0 (sym found.1 ∙ symbol_of at.2) ∙ at.1)
    of_symbol s (inr none) = inr (λ at. none at.0 (symbol_of at.2))

    of : (o : Option Terminal) → Decided (At o)
    of (Some (symbol s)) = of_symbol s (operator_of s)
    of o = inr (λ at. let e = at.2 in cc e)

decide_prefix : (source : Source) (cursor : Cursor) → Decided (IsAtPrefix source cursor)
decide_prefix source cursor = of (decide_next (next source cursor) (symbol symbols.Tilde)) (decide_next (next source cursor) (symbol symbols.Minus))
  where
    of : Decided (next source cursor ≡ Some (symbol symbols.Tilde)) → Decided (next source cursor ≡ Some (symbol symbols.Minus)) → Decided (IsAtPrefix source cursor)
    of (inl tilde) minus = inl (unary.Not, tilde)
    of (inr tilde) (inl minus) = inl (unary.Negate, minus)
    of (inr tilde) (inr minus) = inr (λ at. either at.0 at.1)
      where
        either : (operator : UnaryOperator) → next source cursor ≡ Some (symbol (unary_symbol operator)) → ⊥
        either unary.Not at = tilde at
        either unary.Negate at = minus at

decide_suffix : (source : Source) (cursor : Cursor) → Decided (IsAtSuffix source cursor)
decide_suffix source cursor = of (decide_next (next source cursor) (symbol symbols.Dot)) (decide_next (next source cursor) (symbol symbols.LeftBracket))
  where
    of : Decided (next source cursor ≡ Some (symbol symbols.Dot)) → Decided (next source cursor ≡ Some (symbol symbols.LeftBracket)) → Decided (IsAtSuffix source cursor)
    of (inl dot) bracket = inl (inl dot)
    of (inr dot) (inl bracket) = inl (inr bracket)
    of (inr dot) (inr bracket) = inr either
      where
        either : IsAtSuffix source cursor → ⊥
        either (inl at) = dot at
        either (inr at) = bracket at

-- each of these words has a token
let_token : HasToken LetWord
let_token q both = (keyword keywords.Let, first_one (keyword keywords.Let) _ q [] both)

operand_token : (k : ℕ) → HasToken (Part (IsOperandIn k) operand_leaves)
operand_token k q part = let head = operand_first k q [] part in (symbol (binary_symbol head.0), head.2)

prefix_token : HasToken PrefixWord
prefix_token q part = (symbol (unary_symbol part.0.operator), ap (λ l. first (l ++ [])) part.2)

suffix_token : HasToken OneSuffix
suffix_token q part = let head = of part.0 in (head.0, ap (λ l. first (l ++ [])) part.2 ∙ head.1)
  where
    of : (s : Suffix) → (terminal : Terminal) × (first (suffix_leaves s ++ []) ≡ Some terminal)
    of (suffixes.Field n) = (symbol symbols.Dot, refl)
    of (suffixes.Index index) = (symbol symbols.LeftBracket, refl)
    of (suffixes.Slice high low) = (symbol symbols.LeftBracket, refl)

-- an expression is answered; expressions are at cursors with fewer tokens left
abbrev pub ExpressionAnswered : Source → Cursor → Type 0
ExpressionAnswered source old = Answered source old OneExpression (Free 0)

abbrev pub Inner : Source → Cursor → Type 0
Inner source old = Fewer source old (ExpressionAnswered source)

module _ (source : Source) (stands : All (StandsIn source.text.now) source.tokens.now) where
  -- an expression and the symbol that closes what it stands in
  expression_last : {Word : Language} {Follow : Lookahead} {close : Symbol} {old mid : Cursor} → Goes source old mid Word Follow (Then OneExpression (One (symbol close))) →
      Free 0 (Some (symbol close)) → ExpressionAnswered source mid → Answered source old Word Follow
  expression_last {Follow = Follow} {close = close} goes free part = part_then goes part (before_one Follow (Free 0) (symbol close) free) λ behind forward goes. one_last goes

  -- `let NAME = e ;`
  let_answered : (old : Cursor) → Further old (ExpressionAnswered source) → Answered source old LetWord Any
  let_answered old inner = one_then let_start
      λ bound fewer goes. any_then goes (name_answered source stands bound)
      λ equals forward goes. one_then goes
      λ value less goes. expression_last goes tt (inner value (omega (arith, fewer, forward, less)))

  -- what stands in a block, and a block
  abbrev MoreInside : Cursor → Cursor → Type 0
  MoreInside old mid = old.at ≤ mid.at → InsideGo source old mid → Answered source old InsideWord brace_follows

  inside_answered : (old : Cursor) → Further old (ExpressionAnswered source) → Answered source old InsideWord brace_follows
  inside_answered old inner = by_tokens source (MoreInside old) each old (omega arith) inside_start
    where
      each : (mid : Cursor) → Fewer source mid (MoreInside old) → MoreInside old mid
      each mid again forward go = by_case (decide_next (next source mid) (symbol symbols.RightBrace))
          (λ brace. none_left (inside_end brace go))
          (λ brace. by_case (decide_next (next source mid) (keyword keywords.Let))
          (λ at. part_more let_token (inside_let brace at go) (let_answered mid (λ m further. inner m (omega (arith, forward, further)))) (free InsideWord brace_follows)
          λ new fewer goes. again new fewer (omega (arith, forward, fewer)) goes)
          (λ at. part_then (inside_expression brace at go) (inner mid forward) after_apart
          λ after further goes. by_case (decide_next (next source after) (symbol symbols.Semicolon))
          (λ semicolon. one_then (after_at semicolon goes)
          λ new fewer goes. again new (omega (arith, further, fewer)) (omega (arith, forward, further, fewer)) goes)
          (λ semicolon. none_left (after_end semicolon goes))))

  pub block_by : (old : Cursor) → Inner source old → Answered source old OneBlock Any
  block_by old inner = one_then block_start
      λ inside fewer goes. part_then goes (inside_answered inside (λ m further. inner m (omega (arith, fewer, further)))) (before_one Any brace_follows (symbol symbols.RightBrace) refl)
      λ close forward goes. one_last goes

  -- what begins with a bracket or a keyword
  array_by : (old : Cursor) → Inner source old → Answered source old ArrayWord Any
  array_by old inner = one_then array_start
      λ start fewer goes. closed_answered source stands some_expression tt (tt, refl) goes (λ m further. inner m (omega (arith, fewer, further)))

  parentheses_by : (old : Cursor) → Inner source old → Answered source old ParenthesesWord Any
  parentheses_by old inner = one_then parentheses_start
      λ inside fewer goes. expression_last goes tt (inner inside fewer)

  read_by : (port : ℕ) (old : Cursor) → Answered source old (ReadWord port) Any
  read_by port old = one_then (read_start port)
      λ bracket fewer goes. one_then goes
      λ register less goes. any_then goes (name_answered source stands register)
      λ close forward goes. one_last goes

  write_by : (port : ℕ) (old : Cursor) → Inner source old → Answered source old (WriteWord port) Any
  write_by port old inner = one_then (write_start port)
      λ bracket fewer goes. one_then goes
      λ register less goes. any_then goes (name_answered source stands register)
      λ comma forward goes. one_then goes
      λ value least goes. expression_last goes tt (inner value (omega (arith, fewer, less, forward, least)))

  pack_by : (old : Cursor) → Inner source old → Answered source old PackWord Any
  pack_by old inner = one_then pack_start
      λ bracket fewer goes. one_then goes
      λ value less goes. expression_last goes tt (inner value (omega (arith, fewer, less)))

  unpack_by : (old : Cursor) → Inner source old → Answered source old UnpackWord Any
  unpack_by old inner = one_then unpack_start
      λ bracket fewer goes. one_then goes
      λ type less goes. any_then goes (type_answered source stands type)
      λ comma forward goes. one_then goes
      λ value least goes. expression_last goes tt (inner value (omega (arith, fewer, less, forward, least)))

  extend_by : (extension : Extension) (old : Cursor) → Inner source old → Answered source old (ExtendWord extension) Any
  extend_by extension old inner = one_then (extend_start extension)
      λ bracket fewer goes. one_then goes
      λ value less goes. part_then goes (inner value (omega (arith, fewer, less))) (before_one_then _ Any (Free 0) (symbol symbols.Comma) tt)
      λ comma forward goes. one_then goes
      λ width least goes. any_then goes (number_answered source stands width)
      λ close further goes. one_last goes

  compare_by : (comparison : SignedComparison) (old : Cursor) → Inner source old → Answered source old (CompareWord comparison) Any
  compare_by comparison old inner = one_then (compare_start comparison)
      λ bracket fewer goes. one_then goes
      λ left less goes. part_then goes (inner left (omega (arith, fewer, less))) (before_one_then _ Any (Free 0) (symbol symbols.Comma) tt)
      λ comma forward goes. one_then goes
      λ right least goes. expression_last goes tt (inner right (omega (arith, fewer, less, forward, least)))

  part_answered : (old : Cursor) → Answered source old OnePart Any
  part_answered old = by_case (decide_named (kind_at source old))
      (λ named. any_last (part_name named) (name_answered source stands old))
      (λ named. any_last (part_number named) (number_answered source stands old))

  update_by : (old : Cursor) → Inner source old → Answered source old UpdateWord Any
  update_by old inner = one_then update_start
      λ bracket fewer goes. one_then goes
      λ whole less goes. part_then goes (inner whole (omega (arith, fewer, less))) (before_one_then _ Any (Free 0) (symbol symbols.Comma) tt)
      λ comma forward goes. one_then goes
      λ part least goes. any_then goes (part_answered part)
      λ second further goes. one_then goes
      λ value last goes. expression_last goes tt (inner value (omega (arith, fewer, less, forward, least, further, last)))

  -- what stands behind a name
  field_value_by : (old : Cursor) → Further old (ExpressionAnswered source) → Answered source old OneFieldValue (Free 0)
  field_value_by old inner = any_then field_value_start (name_answered source stands old)
      λ colon forward goes. one_then goes
      λ value fewer goes. part_last goes (inner value (omega (arith, forward, fewer))) (λ v free. free)

  arguments_by : (old : Cursor) → Further old (ExpressionAnswered source) → Answered source old ArgumentsWord parenthesis_follows
  arguments_by old inner = by_case (decide_next (next source old) (symbol symbols.RightParenthesis))
      (λ at. none_left (arguments_end at))
      (λ at. part_last (arguments_at at) (commas_answered source stands some_expression tt old inner) (λ v follows. parenthesis_free (first v) follows))

  named_by : (old : Cursor) → Inner source old → Answered source old NamedWord (Free 12)
  named_by old inner = any_then named_start (name_answered source stands old)
      λ mid forward goes. by_case (decide_next (next source mid) (symbol symbols.LeftParenthesis))
      (λ call. one_then (named_call call goes)
      λ start fewer goes. part_then goes (arguments_by start (λ m further. inner m (omega (arith, forward, fewer, further))))
      (before_one (Free 12) parenthesis_follows (symbol symbols.RightParenthesis) refl)
      λ close further goes. one_last goes)
      (λ call. by_case (decide_next (next source mid) (symbol symbols.ColonColon))
      (λ colons. one_then (named_colons colons goes)
      λ start fewer goes. by_case (decide_named (kind_at source start))
      (λ member. any_last (name_not_brace FieldValuesTail member goes) (name_answered source stands start))
      (λ member. one_then (brace_not_name FieldValuesTail member some_field_values_tail goes)
      λ fields less goes. closed_answered source stands some_field_value tt (tt, refl) goes
      λ at further. field_value_by at (λ m more. inner m (omega (arith, forward, fewer, less, further, more)))))
      (λ colons. none_left (named_end call colons goes)))

  -- a primary
  primary_last : {kind : TokenKind} {old : Cursor} → kind_at source old ≡ Some kind → Has (PrimaryWord kind) → Within (PrimaryWord kind) (LevelWord 12) →
      Answered source old (PrimaryWord kind) Any → Answered source old (LevelWord 12) (Free 12)
  primary_last {kind} at some within reader = any_last (primary_at kind some within at) reader

  no_primary : {kind : TokenKind} (old : Cursor) → kind_at source old ≡ Some kind → ((u : List Leaf) → PrimaryWord kind u → ⊥) → Answered source old (LevelWord 12) (Free 12)
  no_primary old at never =
      unexpected (primary_none (λ kind here u word. never u (subst (λ j. PrimaryWord j u) (same_of_some (sym here ∙ at)) word)))

  keyword_by : (old : Cursor) → Inner source old → (k : Keyword) → kind_at source old ≡ Some (kinds.Keyword k) → Answered source old (LevelWord 12) (Free 12)
  keyword_by old inner keywords.Read0 at = primary_last at (some_read 0) (read_primary 0 (omega arith)) (read_by 0 old)
  keyword_by old inner keywords.Read1 at = primary_last at (some_read 1) (read_primary 1 (omega arith)) (read_by 1 old)
  keyword_by old inner keywords.Read2 at = primary_last at (some_read 2) (read_primary 2 (omega arith)) (read_by 2 old)
  keyword_by old inner keywords.Read3 at = primary_last at (some_read 3) (read_primary 3 (omega arith)) (read_by 3 old)
  keyword_by old inner keywords.Write0 at = primary_last at (some_write 0) (write_primary 0 (omega arith)) (write_by 0 old inner)
  keyword_by old inner keywords.Write1 at = primary_last at (some_write 1) (write_primary 1 (omega arith)) (write_by 1 old inner)
  keyword_by old inner keywords.Write2 at = primary_last at (some_write 2) (write_primary 2 (omega arith)) (write_by 2 old inner)
  keyword_by old inner keywords.Write3 at = primary_last at (some_write 3) (write_primary 3 (omega arith)) (write_by 3 old inner)
  keyword_by old inner keywords.Abort at = one_last (primary_at (kinds.Keyword keywords.Abort) (some_one (keyword keywords.Abort)) abort_primary at)
  keyword_by old inner keywords.Pack at = primary_last at some_pack pack_primary (pack_by old inner)
  keyword_by old inner keywords.Unpack at = primary_last at some_unpack unpack_primary (unpack_by old inner)
  keyword_by old inner keywords.Zext at = primary_last at (some_extend extensions.Zero) (extend_primary extensions.Zero) (extend_by extensions.Zero old inner)
  keyword_by old inner keywords.Sext at = primary_last at (some_extend extensions.Sign) (extend_primary extensions.Sign) (extend_by extensions.Sign old inner)
  keyword_by old inner keywords.Slt at = primary_last at (some_compare comparisons.Less) (compare_primary comparisons.Less) (compare_by comparisons.Less old inner)
  keyword_by old inner keywords.Sle at = primary_last at (some_compare comparisons.LessOrEqual) (compare_primary comparisons.LessOrEqual) (compare_by comparisons.LessOrEqual old inner)
  keyword_by old inner keywords.Sgt at = primary_last at (some_compare comparisons.Greater) (compare_primary comparisons.Greater) (compare_by comparisons.Greater old inner)
  keyword_by old inner keywords.Sge at = primary_last at (some_compare comparisons.GreaterOrEqual) (compare_primary comparisons.GreaterOrEqual) (compare_by comparisons.GreaterOrEqual old inner)
  keyword_by old inner keywords.Update at = primary_last at some_update update_primary (update_by old inner)
  keyword_by old inner k at = no_primary old at (λ u word. word)

  symbol_by : (old : Cursor) → Inner source old → (s : Symbol) → kind_at source old ≡ Some (kinds.Symbol s) → Answered source old (LevelWord 12) (Free 12)
  symbol_by old inner symbols.LeftBracket at = primary_last at some_array array_primary (array_by old inner)
  symbol_by old inner symbols.LeftParenthesis at = primary_last at some_parentheses parentheses_primary (parentheses_by old inner)
  symbol_by old inner symbols.LeftBrace at = primary_last at some_block block_primary (block_by old inner)
  symbol_by old inner s at = no_primary old at (λ u word. word)

  primary_by : (old : Cursor) → Inner source old → Answered source old (LevelWord 12) (Free 12)
  primary_by old inner = of (kind_at source old) refl
    where
      of : (o : Option TokenKind) → kind_at source old ≡ o → Answered source old (LevelWord 12) (Free 12)
      of None at = unexpected (primary_none (λ kind here u word. never_none (sym at ∙ here)))
      of (Some (kinds.Literal bits)) at = any_last (literal_at bits at) (literal_answered source stands old)
      of (Some kinds.Name) at = part_last (named_at at) (named_by old inner) (λ v free. free)
      of (Some (kinds.Number n)) at = no_primary old at (λ u word. word)
      of (Some (kinds.Symbol s)) at = symbol_by old inner s at
      of (Some (kinds.Keyword k)) at = keyword_by old inner k at

  -- suffixes behind a primary
  suffix_answered : (old : Cursor) → Answered source old OneSuffix Any
  suffix_answered old = by_case (decide_next (next source old) (symbol symbols.Dot))
      (λ dot. one_then (suffix_dot dot) λ field fewer goes. any_last goes (name_answered source stands field))
      (λ dot. one_then (suffix_bracket dot)
      λ high fewer goes. any_then goes (number_answered source stands high)
      λ mid forward goes. by_case (decide_next (next source mid) (symbol symbols.Colon))
      (λ colon. one_then (slice_at colon goes)
      λ low less goes. any_then goes (number_answered source stands low)
      λ close further goes. one_last goes)
      (λ colon. one_last (index_at colon goes)))

  abbrev Suffixed : Cursor → Cursor → Type 0
  Suffixed old mid = Goes source old mid (LevelWord 11) (Free 11) MoreSuffixes → Answered source old (LevelWord 11) (Free 11)

  postfix_by : (old : Cursor) → Inner source old → Answered source old (LevelWord 11) (Free 11)
  postfix_by old inner = part_then postfix_start (primary_by old inner) suffixes_apart λ mid forward goes. by_tokens source (Suffixed old) each mid goes
    where
      each : (mid : Cursor) → Fewer source mid (Suffixed old) → Suffixed old mid
      each mid again goes = by_case (decide_suffix source mid)
          (λ at. part_more suffix_token (suffixes_at at goes) (suffix_answered mid) (free MoreSuffixes (Free 11)) λ new fewer goes. again new fewer goes)
          (λ at. none_left (suffixes_end at goes))

  -- operators in front of a postfix
  abbrev Prefixed : Cursor → Cursor → Type 0
  Prefixed old mid = Goes source old mid PrefixesWord no_prefix MorePrefixes → Answered source old PrefixesWord no_prefix

  prefix_answered : (old : Cursor) → IsAtPrefix source old → Answered source old PrefixWord Any
  prefix_answered old at = one_last (prefix_at_sign at.0 at.1)

  prefixes_answered : (old : Cursor) → IsAtPrefix source old → Answered source old PrefixesWord no_prefix
  prefixes_answered old at = any_then prefixes_start (prefix_answered old at) λ mid forward goes. by_tokens source (Prefixed old) each mid goes
    where
      each : (mid : Cursor) → Fewer source mid (Prefixed old) → Prefixed old mid
      each mid again goes = by_case (decide_prefix source mid)
          (λ at. part_more prefix_token (prefixes_at at goes) (prefix_answered mid at) (free MorePrefixes no_prefix) λ new fewer goes. again new fewer goes)
          (λ at. none_left (prefixes_end at goes))

  unary_by : (old : Cursor) → Inner source old → Answered source old (LevelWord 10) (Free 10)
  unary_by old inner = by_case (decide_prefix source old)
      (λ at. part_then (unary_at at) (prefixes_answered old at) (prefixes_apart (Free 10))
      λ mid forward goes. part_last goes (postfix_by mid (λ m fewer. inner m (omega (arith, forward, fewer)))) freer)
      (λ at. part_last (unary_end at) (postfix_by old inner) freer)
    where
      freer : (v : List Leaf) → Free 10 (first v) → Free 11 (first v)
      freer v free = free_more 10 11 (omega arith) (first v) free

  -- chains of each level
  abbrev Chained : ℕ → Cursor → Cursor → Type 0
  Chained k old mid = old.at ≤ mid.at → OperandsGo source old mid k (LevelWord k) → Answered source old (LevelWord k) (Free k)

  operands_by : (k : ℕ) → 0 < k → k ≤ 9 → (old : Cursor) → Further old (λ mid. Answered source mid (LevelWord (k + 1)) (Free (k + 1))) → (mid : Cursor) → Chained k old mid
  operands_by k low high old tighter = by_tokens source (Chained k old) each
    where
      operand : (mid : Cursor) → old.at ≤ mid.at → IsAtOperator source mid k → Answered source mid (Part (IsOperandIn k) operand_leaves) (Free (k + 1))
      operand mid forward at = any_then (operand_start k low high) (one_last (operator_at k low high at.0 at.1 at.2))
          λ inside further goes. part_last goes (tighter inside (omega (arith, forward, further))) (λ v free. free)

      each : (mid : Cursor) → Fewer source mid (Chained k old) → Chained k old mid
      each mid again forward go = by_case (decide_operator source mid k)
          (λ at. part_more (operand_token k) (operands_at k low high at go) (operand mid forward at) (operands_apart k)
          λ new fewer goes. again new fewer (omega (arith, forward, fewer)) goes)
          (λ at. none_left (operands_end k at go))

  chain_by : (j k : ℕ) → k + j ≡ 10 → 0 < k → (old : Cursor) → Inner source old → Answered source old (LevelWord k) (Free k)
  chain_by zero k same low old inner = subst (λ n. Answered source old (LevelWord n) (Free n)) (omega (arith, same)) (unary_by old inner)
  chain_by (suc j) k same low old inner =
      let high : k ≤ 9 = omega (arith, same) in
      let tighter : Further old (λ mid. Answered source mid (LevelWord (k + 1)) (Free (k + 1))) =
      λ m further. chain_by j (k + 1) (omega (arith, same)) (omega arith) m (λ n fewer. inner n (omega (arith, further, fewer))) in
      part_then (chain_start k low high) (chain_by j (k + 1) (omega (arith, same)) (omega arith) old inner) (operands_apart k) (operands_by k low high old tighter)

  -- an `if`, and an expression
  arm_by : (old : Cursor) → Inner source old → Answered source old (Part IsArm arm_leaves) Any
  arm_by old inner = one_then arm_start
      λ condition fewer goes. part_then goes (chain_by 9 1 refl (omega arith) condition (λ m less. inner m (omega (arith, fewer, less)))) (before_block 1 Any)
      λ body forward goes. any_last goes (block_by body (λ m less. inner m (omega (arith, fewer, forward, less))))

  abbrev Branched : Cursor → Cursor → Type 0
  Branched old mid = old.at ≤ mid.at → ElseGo source old mid → Answered source old ConditionalWord (Free 0)

  conditional_by : (old : Cursor) → Inner source old → Answered source old ConditionalWord (Free 0)
  conditional_by old inner = any_then conditional_start (arm_by old inner) (by_tokens source (Branched old) each)
    where
      each : (mid : Cursor) → Fewer source mid (Branched old) → Branched old mid
      each mid again forward go = by_case (decide_next (next source mid) (keyword keywords.Else))
          (λ here. one_then (else_at here go)
          λ branch fewer goes. by_case (decide_next (next source branch) (keyword keywords.If))
          (λ at. any_then (else_arm at goes) (arm_by branch (λ m less. inner m (omega (arith, forward, fewer, less))))
          λ new further goes. again new (omega (arith, fewer, further)) (omega (arith, forward, fewer, further)) goes)
          (λ at. any_last (else_block at goes) (block_by branch (λ m less. inner m (omega (arith, forward, fewer, less))))))
          (λ here. none_left (else_end here go))

  pub expression_answered : (old : Cursor) → Answered source old OneExpression (Free 0)
  expression_answered = by_tokens source (λ old. Answered source old OneExpression (Free 0)) each
    where
      each : (old : Cursor) → Inner source old → Answered source old OneExpression (Free 0)
      each old inner = by_case (decide_next (next source old) (keyword keywords.If))
          (λ at. part_last (expression_if at) (conditional_by old inner) (λ v free. free))
          (λ at. part_last (expression_chain at) (chain_by 9 1 refl (omega arith) old inner) (λ v free. free_more 0 1 (omega arith) (first v) free))

  pub block_answered : (old : Cursor) → Answered source old OneBlock Any
  block_answered old = block_by old (λ m fewer. expression_answered m)
