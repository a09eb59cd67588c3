-- The words of expressions, as the words of `specs/Words.antt` are: a chain by its level, a primary by its first token,
-- and what may be after an expression of a level. They are the grammar's, as the clauses of private functions cite
-- them.
use Rattle.std.specs.Prelude.{◌≡◌, ◌⊎◌, ℕ, ◌<◌, ◌≤◌, Option, None, Some, IfSome, ⊤, List, [], ◌++◌, map, All}
use Rattle.std.specs.List.{flat_map}
use Rattle.koika_syntax.specs.Grammar.{IsName, NumberFits, LiteralFits, IsType, IsBlock, IsPart, IsSuffix, type_leaves, block_leaves, part_leaves, prefix_leaves, suffix_leaves, last_leaves, level, level_of}
use Rattle.koika_syntax.specs.inner.Grammar.{IsExpression, expression_leaves, statement_leaves, arm_leaves, operand_leaves, field_value_leaves}
use Rattle.koika_syntax.specs.Tree.{Leaf, Terminal, keyword, symbol, word, name_leaves, number_leaves, literal_leaves, commas, each_after, unary_symbol, binary_symbol, comparison_word, extension_word, read_word, write_word}
use Rattle.koika_syntax.specs.declared.keyword.Keyword.{Keyword}
use Rattle.koika_syntax.specs.declared.keyword.Keyword.TheVariants as keywords
use Rattle.koika_syntax.specs.declared.symbol.Symbol.{Symbol}
use Rattle.koika_syntax.specs.declared.symbol.Symbol.TheVariants as symbols
use Rattle.koika_syntax.specs.declared.operator.BinaryOperator.{BinaryOperator}
use Rattle.koika_syntax.specs.declared.operator.Extension.{Extension}
use Rattle.koika_syntax.specs.declared.operator.Extension.TheVariants as extensions
use Rattle.koika_syntax.specs.declared.operator.SignedComparison.{SignedComparison}
use Rattle.koika_syntax.specs.declared.operator.SignedComparison.TheVariants as comparisons
use Rattle.koika_syntax.specs.declared.operator.UnaryOperator.{UnaryOperator}
use Rattle.koika_syntax.specs.declared.tree.Arm.{Arm}
use Rattle.koika_syntax.specs.declared.tree.Block.{Block}
use Rattle.koika_syntax.specs.declared.tree.Expression.{Expression}
use Rattle.koika_syntax.specs.declared.tree.Statement.{Statement}
use Rattle.koika_parse.specs.inner.Expected.{One, Part, Then, Commas}
use Rattle.koika_parse.specs.inner.Parts.{IsArm, IsFieldValue, IsOperandIn, IsStatement}
use Rattle.koika_parse.specs.inner.Reading.{next}
use Rattle.koika_parse.specs.declared.cursor.Cursor.{Cursor}
use Rattle.koika_parse.specs.declared.source.Source.{Source}

-- how tightly a symbol holds to what is in front of it, if an expression can go on with it: an operator of two operands
-- by its level, a suffix by 11, and what makes a call or a path of a name by 12
abbrev pub holds : Symbol → Option ℕ
holds symbols.Bar = Some 1
holds symbols.Caret = Some 2
holds symbols.Ampersand = Some 3
holds symbols.EqualsEquals = Some 4
holds symbols.NotEquals = Some 4
holds symbols.Less = Some 5
holds symbols.LessEquals = Some 5
holds symbols.Greater = Some 5
holds symbols.GreaterEquals = Some 5
holds symbols.PlusPlus = Some 6
holds symbols.LessLess = Some 7
holds symbols.GreaterGreater = Some 7
holds symbols.GreaterGreaterGreater = Some 7
holds symbols.Plus = Some 8
holds symbols.Minus = Some 8
holds symbols.Star = Some 9
holds symbols.Dot = Some 11
holds symbols.LeftBracket = Some 11
holds symbols.LeftParenthesis = Some 12
holds symbols.ColonColon = Some 12
holds _ = None

-- a token that goes on with no expression of this level
abbrev pub Free : ℕ → Option Terminal → Type 0
Free k (Some (symbol s)) = IfSome (holds s) (λ l. l < k)
Free k (Some (keyword keywords.Else)) = 0 < k
Free k _ = ⊤

-- an expression that holds together so tightly, and operands of a level
abbrev pub LevelWord : ℕ → List Leaf → Type 0
LevelWord k = Part (λ e. IsExpression e × (k ≤ level e)) expression_leaves

abbrev pub OperatorWord : ℕ → List Leaf → Type 0
OperatorWord k u = (operator : BinaryOperator) × (level_of operator ≡ k) × One (symbol (binary_symbol operator)) u

-- operands of a level, and at least one of them
abbrev pub OperandsWord : ℕ → List Leaf → Type 0
OperandsWord k = Part (λ operands. All (IsOperandIn k) operands) (λ operands. flat_map operand_leaves operands)

abbrev pub SomeOperandsWord : ℕ → List Leaf → Type 0
SomeOperandsWord k = Then (Part (IsOperandIn k) operand_leaves) (OperandsWord k)

-- the next token is an operator of this level, and an operator in front of an operand
abbrev pub IsAtOperator : Source → Cursor → ℕ → Type 0
IsAtOperator source cursor k = (operator : BinaryOperator) × (level_of operator ≡ k) × (next source cursor ≡ Some (symbol (binary_symbol operator)))

abbrev pub IsAtPrefix : Source → Cursor → Type 0
IsAtPrefix source cursor = (operator : UnaryOperator) × (next source cursor ≡ Some (symbol (unary_symbol operator)))

-- operators in front of an operand, and suffixes after it, at least one
abbrev pub PrefixWord : List Leaf → Type 0
PrefixWord = Part (λ prefix. ⊤) prefix_leaves

abbrev pub PrefixesWord : List Leaf → Type 0
PrefixesWord = Then PrefixWord (Part (λ prefixes. All (λ prefix. ⊤) prefixes) (λ prefixes. flat_map prefix_leaves prefixes))

abbrev pub SuffixesWord : List Leaf → Type 0
SuffixesWord = Then (Part IsSuffix suffix_leaves) (Part (λ suffixes. All IsSuffix suffixes) (λ suffixes. flat_map suffix_leaves suffixes))

abbrev pub no_prefix : Option Terminal → Type 0
no_prefix (Some (symbol symbols.Tilde)) = ⊥
no_prefix (Some (symbol symbols.Minus)) = ⊥
no_prefix _ = ⊤

-- a literal, a block, a suffix, the part of an update and a field of a struct
abbrev pub OneLiteral : List Leaf → Type 0
OneLiteral = Part LiteralFits literal_leaves

abbrev pub OneBlock : List Leaf → Type 0
OneBlock = Part IsBlock block_leaves

abbrev pub OneSuffix : List Leaf → Type 0
OneSuffix = Part IsSuffix suffix_leaves

abbrev pub OnePart : List Leaf → Type 0
OnePart = Part IsPart part_leaves

abbrev pub OneFieldValue : List Leaf → Type 0
OneFieldValue = Part IsFieldValue field_value_leaves

-- what begins with a bracket or a keyword
abbrev pub ArrayWord : List Leaf → Type 0
ArrayWord = Then (One (symbol symbols.LeftBracket)) (Then (Commas IsExpression expression_leaves) (One (symbol symbols.RightBracket)))

abbrev pub ParenthesesWord : List Leaf → Type 0
ParenthesesWord = Then (One (symbol symbols.LeftParenthesis)) (Then (Part IsExpression expression_leaves) (One (symbol symbols.RightParenthesis)))

abbrev pub ReadWord : ℕ → List Leaf → Type 0
ReadWord port = Then (One (keyword (read_word port))) (Then (One (symbol symbols.LeftParenthesis)) (Then (Part IsName name_leaves) (One (symbol symbols.RightParenthesis))))

abbrev pub WriteWord : ℕ → List Leaf → Type 0
WriteWord port = Then (One (keyword (write_word port))) (Then (One (symbol symbols.LeftParenthesis)) (Then (Part IsName name_leaves) (Then (One (symbol symbols.Comma)) (Then (Part IsExpression expression_leaves) (One (symbol symbols.RightParenthesis))))))

abbrev pub PackWord : List Leaf → Type 0
PackWord = Then (One (keyword keywords.Pack)) (Then (One (symbol symbols.LeftParenthesis)) (Then (Part IsExpression expression_leaves) (One (symbol symbols.RightParenthesis))))

abbrev pub UnpackWord : List Leaf → Type 0
UnpackWord = Then (One (keyword keywords.Unpack)) (Then (One (symbol symbols.LeftParenthesis)) (Then (Part IsType type_leaves) (Then (One (symbol symbols.Comma)) (Then (Part IsExpression expression_leaves) (One (symbol symbols.RightParenthesis))))))

abbrev pub ExtendWord : Extension → List Leaf → Type 0
ExtendWord extension = Then (One (keyword (extension_word extension))) (Then (One (symbol symbols.LeftParenthesis)) (Then (Part IsExpression expression_leaves) (Then (One (symbol symbols.Comma)) (Then (Part NumberFits number_leaves) (One (symbol symbols.RightParenthesis))))))

abbrev pub CompareWord : SignedComparison → List Leaf → Type 0
CompareWord comparison = Then (One (keyword (comparison_word comparison))) (Then (One (symbol symbols.LeftParenthesis)) (Then (Part IsExpression expression_leaves) (Then (One (symbol symbols.Comma)) (Then (Part IsExpression expression_leaves) (One (symbol symbols.RightParenthesis))))))

abbrev pub UpdateWord : List Leaf → Type 0
UpdateWord = Then (One (keyword keywords.Update)) (Then (One (symbol symbols.LeftParenthesis)) (Then (Part IsExpression expression_leaves) (Then (One (symbol symbols.Comma)) (Then (Part IsPart part_leaves) (Then (One (symbol symbols.Comma)) (Then (Part IsExpression expression_leaves) (One (symbol symbols.RightParenthesis))))))))

-- what is after a name
abbrev pub ArgumentsWord : List Leaf → Type 0
ArgumentsWord = Part (λ arguments. All IsExpression arguments) (λ arguments. commas (map expression_leaves arguments))

abbrev pub CallTailWord : List Leaf → Type 0
CallTailWord = Then (One (symbol symbols.LeftParenthesis)) (Then ArgumentsWord (One (symbol symbols.RightParenthesis)))

abbrev pub StructTailWord : List Leaf → Type 0
StructTailWord = Then (One (symbol symbols.LeftBrace)) (Then (Commas IsFieldValue field_value_leaves) (One (symbol symbols.RightBrace)))

abbrev pub ColonsWord : List Leaf → Type 0
ColonsWord u = Part IsName name_leaves u ⊎ StructTailWord u

abbrev pub NamedTailWord : List Leaf → Type 0
NamedTailWord u = (u ≡ []) ⊎ (CallTailWord u ⊎ Then (One (symbol symbols.ColonColon)) ColonsWord u)

abbrev pub NamedWord : List Leaf → Type 0
NamedWord = Then (Part IsName name_leaves) NamedTailWord

-- a primary that begins with a keyword or a symbol, by that
abbrev pub KeywordWord : Keyword → List Leaf → Type 0
KeywordWord keywords.Read0 = ReadWord 0
KeywordWord keywords.Read1 = ReadWord 1
KeywordWord keywords.Read2 = ReadWord 2
KeywordWord keywords.Read3 = ReadWord 3
KeywordWord keywords.Write0 = WriteWord 0
KeywordWord keywords.Write1 = WriteWord 1
KeywordWord keywords.Write2 = WriteWord 2
KeywordWord keywords.Write3 = WriteWord 3
KeywordWord keywords.Abort = One (keyword keywords.Abort)
KeywordWord keywords.Pack = PackWord
KeywordWord keywords.Unpack = UnpackWord
KeywordWord keywords.Zext = ExtendWord extensions.Zero
KeywordWord keywords.Sext = ExtendWord extensions.Sign
KeywordWord keywords.Slt = CompareWord comparisons.Less
KeywordWord keywords.Sle = CompareWord comparisons.LessOrEqual
KeywordWord keywords.Sgt = CompareWord comparisons.Greater
KeywordWord keywords.Sge = CompareWord comparisons.GreaterOrEqual
KeywordWord keywords.Update = UpdateWord
KeywordWord _ = λ u. ⊥

abbrev pub SymbolWord : Symbol → List Leaf → Type 0
SymbolWord symbols.LeftBracket = ArrayWord
SymbolWord symbols.LeftParenthesis = ParenthesesWord
SymbolWord symbols.LeftBrace = Part IsBlock block_leaves
SymbolWord _ = λ u. ⊥

-- `let NAME = e ;`
abbrev pub LetWord : List Leaf → Type 0
LetWord = Then (One (keyword keywords.Let)) (Then (Part IsName name_leaves) (Then (One (symbol symbols.Equals)) (Then (Part IsExpression expression_leaves) (One (symbol symbols.Semicolon)))))

-- what hangs on the first arm of an `if`, the whole `if`, and a block between its brackets
abbrev pub ElseWord : List Leaf → Type 0
ElseWord u = (arms : List Arm) × (otherwise : Option Block) × All IsArm arms × IfSome otherwise IsBlock × (u ≡ each_after (word keywords.Else) (map arm_leaves arms) ++ last_leaves otherwise (λ block. word keywords.Else ++ block_leaves block))

abbrev pub ConditionalWord : List Leaf → Type 0
ConditionalWord = Then (Part IsArm arm_leaves) ElseWord

abbrev pub InsideWord : List Leaf → Type 0
InsideWord u = (statements : List Statement) × (value : Option Expression) × All IsStatement statements × IfSome value IsExpression × (u ≡ flat_map statement_leaves statements ++ last_leaves value expression_leaves)

-- the next token begins a suffix
abbrev pub IsAtSuffix : Source → Cursor → Type 0
IsAtSuffix source cursor = (next source cursor ≡ Some (symbol symbols.Dot)) ⊎ (next source cursor ≡ Some (symbol symbols.LeftBracket))

-- the closing bracket follows
abbrev pub brace_follows : Option Terminal → Type 0
brace_follows next = next ≡ Some (symbol symbols.RightBrace)

abbrev pub parenthesis_follows : Option Terminal → Type 0
parenthesis_follows next = next ≡ Some (symbol symbols.RightParenthesis)
