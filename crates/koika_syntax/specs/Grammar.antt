-- The grammar of a design: the tokens of each part, one case for each production, and what a tree must keep so
-- that it is one of the grammar's. The operators' levels are one table. This project's own text form; the way
-- that levels group is that of C (ISO/IEC 9899:2018, 6.5), with levels of its own.
use Rattle.std.specs.Prelude.{◌≡◌, ℕ, ◌<◌, ◌^◌, Option, None, Some, IfSome, ⊤, List, [], ◌∷◌, ◌++◌, map, length, All}
use Rattle.std.specs.List.{AllZip, flat_map}
use Rattle.kw_bits.specs.BitVector.{IsBitVector}
use Rattle.koika_syntax.specs.Tokens.{IsToken}
use Rattle.koika_syntax.specs.Tree.{Leaf, keyword, symbol, word, sign, placed, name_leaves, number_leaves, literal_leaves, width_leaves, all_of, with_between, commas, in_braces, in_parentheses, unary_symbol, binary_symbol, comparison_word, extension_word, read_word, write_word, IsLeafAt}
use Rattle.koika_syntax.specs.declared.keyword.Keyword.TheVariants as keywords
use Rattle.koika_syntax.specs.declared.symbol.Symbol.TheVariants as symbols
use Rattle.koika_syntax.specs.declared.token.Token.{Token}
use Rattle.koika_syntax.specs.declared.token.TokenKind.TheVariants as kinds
use Rattle.koika_syntax.specs.declared.tree.Arm.{Arm, Arm-F}
use Rattle.koika_syntax.specs.declared.operator.BinaryOperator.{BinaryOperator}
use Rattle.koika_syntax.specs.declared.operator.BinaryOperator.TheVariants as binary
use Rattle.koika_syntax.specs.declared.tree.Block.{Block, Block-F, fold-Block, every-Block}
use Rattle.koika_syntax.specs.declared.tree.Choice.{Choice, Choice-F}
use Rattle.koika_syntax.specs.declared.tree.Constant.{Constant, Constant-F, fold-Constant, every-Constant}
use Rattle.koika_syntax.specs.declared.tree.Constant.TheOpen as constant
use Rattle.koika_syntax.specs.declared.tree.ConstantField.{ConstantField, ConstantField-F}
use Rattle.koika_syntax.specs.declared.tree.Declaration.{Declaration}
use Rattle.koika_syntax.specs.declared.tree.Declaration.TheVariants as declarations
use Rattle.koika_syntax.specs.declared.tree.Expression.{Expression, Expression-F, out-Expression}
use Rattle.koika_syntax.specs.declared.tree.Expression.TheOpen as expression
use Rattle.koika_syntax.specs.declared.tree.Field.{Field}
use Rattle.koika_syntax.specs.declared.tree.FieldValue.{FieldValue, FieldValue-F}
use Rattle.koika_syntax.specs.declared.tree.Literal.{Literal}
use Rattle.koika_syntax.specs.declared.tree.EnumMember.{EnumMember}
use Rattle.koika_syntax.specs.declared.tree.Name.{Name}
use Rattle.koika_syntax.specs.declared.tree.Number.{Number}
use Rattle.koika_syntax.specs.declared.tree.Operand.{Operand, Operand-F, out-Operand}
use Rattle.koika_syntax.specs.declared.tree.UpdatedPart.{UpdatedPart}
use Rattle.koika_syntax.specs.declared.tree.UpdatedPart.TheVariants as parts
use Rattle.koika_syntax.specs.declared.tree.Prefix.{Prefix}
use Rattle.koika_syntax.specs.declared.tree.Scheduler.{Scheduler, Scheduler-F, fold-Scheduler, every-Scheduler}
use Rattle.koika_syntax.specs.declared.tree.Statement.{Statement, Statement-F}
use Rattle.koika_syntax.specs.declared.tree.Suffix.{Suffix}
use Rattle.koika_syntax.specs.declared.tree.Suffix.TheVariants as suffixes
use Rattle.koika_syntax.specs.declared.tree.Tree.{Tree}
use Rattle.koika_syntax.specs.declared.tree.TypeExpression.{TypeExpression, TypeExpression-F, fold-TypeExpression, every-TypeExpression}
use Rattle.koika_syntax.specs.declared.tree.TypeExpression.TheOpen as type_expression
use Rattle.koika_syntax.specs.declared.tree.Width.{Width}

-- the tokens of a part
abbrev pub Leaves : Type 0
Leaves = List Leaf

-- type = "bits" NUM | NAME | "[" type ";" NUM "]"
abbrev pub type_step : TypeExpression-F Leaves → List Leaf
type_step (type_expression.Bits width) = width_leaves width
type_step (type_expression.Named n) = name_leaves n
type_step (type_expression.Array place element size) =
    placed (symbol symbols.LeftBracket) place ++ element ++ sign symbols.Semicolon ++ number_leaves size ++ sign symbols.RightBracket

-- the tokens of a type
unfoldable pub type_leaves : TypeExpression → List Leaf
type_leaves = fold-TypeExpression Leaves type_step

-- NAME "::" "{" NAME ":" .. { "," NAME ":" .. } "}"
abbrev pub struct_leaves : Name → List Leaves → ℕ → List Leaf
struct_leaves of fields close =
    name_leaves of ++ sign symbols.ColonColon ++ sign symbols.LeftBrace ++ commas fields ++ placed (symbol symbols.RightBrace) close

-- "[" .. { "," .. } "]"
abbrev pub array_leaves : ℕ → List Leaves → List Leaf
array_leaves place elements = placed (symbol symbols.LeftBracket) place ++ commas elements ++ sign symbols.RightBracket

-- const = LIT | NAME "::" NAME | NAME "::" "{" NAME ":" const { "," NAME ":" const } "}" | "[" const { "," const } "]"
abbrev pub constant_step : Constant-F Leaves Leaves → List Leaf
constant_step (constant.Literal l) = literal_leaves l
constant_step (constant.Member of member) = name_leaves of ++ sign symbols.ColonColon ++ name_leaves member
constant_step (constant.Struct of fields close) = struct_leaves of fields close
constant_step (constant.Array place elements) = array_leaves place elements

-- the tokens of a field of a constant
abbrev pub constant_field_step : ConstantField-F Leaves Leaves → List Leaf
constant_field_step field = name_leaves field.name ++ sign symbols.Colon ++ field.value

-- the tokens of a constant
unfoldable pub constant_leaves : Constant → List Leaf
constant_leaves = fold-Constant Leaves Leaves constant_step constant_field_step

-- block = "{" { stmt } [ expr ] "}"
abbrev pub last_leaves : {M : Type 0} → Option M → (M → List Leaf) → List Leaf
last_leaves None leaves = []
last_leaves (Some last) leaves = leaves last

-- the tokens of a block
abbrev pub block_step : Block-F Leaves Leaves Leaves Leaves Leaves Leaves → List Leaf
block_step block =
    placed (symbol symbols.LeftBrace) block.place ++ all_of block.statements ++ last_leaves block.value (λ value. value) ++ sign symbols.RightBrace

-- stmt = "let" NAME "=" expr ";" | expr ";"
abbrev pub statement_step : Statement-F Leaves Leaves Leaves Leaves Leaves Leaves → List Leaf
statement_step (expression.Let n value) = word keywords.Let ++ name_leaves n ++ sign symbols.Equals ++ value ++ sign symbols.Semicolon
statement_step (expression.Do value) = value ++ sign symbols.Semicolon

-- if = "if" chain block { "else" "if" chain block } [ "else" block ]
abbrev pub arm_step : Arm-F Leaves Leaves Leaves Leaves Leaves Leaves → List Leaf
arm_step arm = placed (keyword keywords.If) arm.place ++ arm.condition ++ arm.body

-- the tokens of an `if`, by those of its arms and its last block
abbrev pub if_leaves : List Leaves → Option Leaves → List Leaf
if_leaves arms otherwise = with_between (word keywords.Else) arms ++ last_leaves otherwise (λ block. word keywords.Else ++ block)

-- a chain: operands joined by operators
abbrev pub operand_step : Operand-F Leaves Leaves Leaves Leaves Leaves Leaves → List Leaf
operand_step operand = sign (binary_symbol operand.operator) ++ operand.operand

-- unary = { "~" | "-" } postfix
abbrev pub prefix_leaves : Prefix → List Leaf
prefix_leaves prefix = placed (symbol (unary_symbol prefix.operator)) prefix.place

-- postfix = primary { "." NAME | "[" NUM "]" | "[" NUM ":" NUM "]" }
abbrev pub suffix_leaves : Suffix → List Leaf
suffix_leaves (suffixes.Field n) = sign symbols.Dot ++ name_leaves n
suffix_leaves (suffixes.Index index) = sign symbols.LeftBracket ++ number_leaves index ++ sign symbols.RightBracket
suffix_leaves (suffixes.Slice high low) =
    sign symbols.LeftBracket ++ number_leaves high ++ sign symbols.Colon ++ number_leaves low ++ sign symbols.RightBracket

-- the tokens of the part that an update replaces
abbrev pub part_leaves : UpdatedPart → List Leaf
part_leaves (parts.Field n) = name_leaves n
part_leaves (parts.Index index) = number_leaves index

-- a word and, in parentheses, its arguments
abbrev pub call_leaves : List Leaf → List Leaves → List Leaf
call_leaves called arguments = called ++ in_parentheses (commas arguments)

-- expr = if | chain, and below them unary, postfix and the cases of primary
abbrev pub expression_step : Expression-F Leaves Leaves Leaves Leaves Leaves Leaves → List Leaf
expression_step (expression.If arms otherwise) = if_leaves arms otherwise
expression_step (expression.Chain first rest) = first ++ all_of rest
expression_step (expression.Unary prefixes operand) = flat_map prefix_leaves prefixes ++ operand
expression_step (expression.Postfix primary suffixes) = primary ++ flat_map suffix_leaves suffixes
expression_step (expression.Literal l) = literal_leaves l
expression_step (expression.Name n) = name_leaves n
expression_step (expression.Call called arguments) = call_leaves (name_leaves called) arguments
expression_step (expression.Member of member) = name_leaves of ++ sign symbols.ColonColon ++ name_leaves member
expression_step (expression.Struct of fields close) = struct_leaves of fields close
expression_step (expression.Array place elements) = array_leaves place elements
expression_step (expression.Parentheses place inside) =
    placed (symbol symbols.LeftParenthesis) place ++ inside ++ sign symbols.RightParenthesis
expression_step (expression.Block block) = block
expression_step (expression.Read place port register) = call_leaves (placed (keyword (read_word port)) place) (name_leaves register ∷ [])
expression_step (expression.Write place port register value) =
    call_leaves (placed (keyword (write_word port)) place) (name_leaves register ∷ value ∷ [])
expression_step (expression.Abort place) = placed (keyword keywords.Abort) place
expression_step (expression.Pack place value) = call_leaves (placed (keyword keywords.Pack) place) (value ∷ [])
expression_step (expression.Unpack place to value) =
    call_leaves (placed (keyword keywords.Unpack) place) (type_leaves to ∷ value ∷ [])
expression_step (expression.Extend place extension value width) =
    call_leaves (placed (keyword (extension_word extension)) place) (value ∷ number_leaves width ∷ [])
expression_step (expression.Compare place comparison left right) =
    call_leaves (placed (keyword (comparison_word comparison)) place) (left ∷ right ∷ [])
expression_step (expression.Update place whole part value) =
    call_leaves (placed (keyword keywords.Update) place) (whole ∷ part_leaves part ∷ value ∷ [])

-- the tokens of a field and its value
abbrev pub field_value_step : FieldValue-F Leaves Leaves Leaves Leaves Leaves Leaves → List Leaf
field_value_step field = name_leaves field.name ++ sign symbols.Colon ++ field.value

-- the tokens of a block, by those of its parts
unfoldable pub block_leaves : Block → List Leaf
block_leaves = fold-Block Leaves Leaves Leaves Leaves Leaves Leaves expression_step statement_step arm_step block_step field_value_step operand_step

-- member = NAME "=" LIT, and field = NAME ":" type
abbrev pub member_leaves : EnumMember → List Leaf
member_leaves member = name_leaves member.name ++ sign symbols.Equals ++ literal_leaves member.value

-- the tokens of a struct's field
abbrev pub field_leaves : Field → List Leaf
field_leaves field = name_leaves field.name ++ sign symbols.Colon ++ type_leaves field.of

-- type | "unit"
abbrev pub result_leaves : Option TypeExpression → List Leaf
result_leaves None = word keywords.Unit
result_leaves (Some of) = type_leaves of

-- ":" "bits" NUM "->" "bits" NUM
abbrev pub map_leaves : (input output : Width) → List Leaf
map_leaves input output = sign symbols.Colon ++ width_leaves input ++ sign symbols.Arrow ++ width_leaves output

-- decl, one case for each word
abbrev pub declaration_leaves : Declaration → List Leaf
declaration_leaves (declarations.Enum n width members) =
    word keywords.Enum ++ name_leaves n ++ sign symbols.Colon ++ width_leaves width ++ in_braces (commas (map member_leaves members))
declaration_leaves (declarations.Struct n fields) = word keywords.Struct ++ name_leaves n ++ in_braces (commas (map field_leaves fields))
declaration_leaves (declarations.Register n of first) =
    word keywords.Reg ++ name_leaves n ++ sign symbols.Colon ++ type_leaves of ++ sign symbols.Equals ++ constant_leaves first ++ sign symbols.Semicolon
declaration_leaves (declarations.Input n of) = word keywords.Input ++ name_leaves n ++ sign symbols.Colon ++ type_leaves of ++ sign symbols.Semicolon
declaration_leaves (declarations.Table n input output entries) =
    word keywords.Table ++ name_leaves n ++ map_leaves input output ++ in_braces (commas (map literal_leaves entries))
declaration_leaves (declarations.Host n input output) = word keywords.Host ++ name_leaves n ++ map_leaves input output ++ sign symbols.Semicolon
declaration_leaves (declarations.Function n parameters result body) =
    word keywords.Fun ++ name_leaves n ++ in_parentheses (commas (map field_leaves parameters)) ++ sign symbols.Colon ++ result_leaves result ++ block_leaves body
declaration_leaves (declarations.Rule n body) = word keywords.Rule ++ name_leaves n ++ block_leaves body
declaration_leaves (declarations.Assert n) = word keywords.Assert ++ name_leaves n ++ sign symbols.Semicolon

-- sched = [ NAME ";" sched | "try" NAME "then" "{" sched "}" "else" "{" sched "}" ]
abbrev pub rule_leaves : Name → List Leaf
rule_leaves n = name_leaves n ++ sign symbols.Semicolon

-- the tokens of a `try`
abbrev pub choice_step : Choice-F Leaves Leaves → List Leaf
choice_step choice =
    word keywords.Try ++ name_leaves choice.rule ++ word keywords.Then ++ in_braces choice.then ++ word keywords.Else ++ in_braces choice.otherwise

-- the tokens of a scheduler
abbrev pub scheduler_step : Scheduler-F Leaves Leaves → List Leaf
scheduler_step scheduler = flat_map rule_leaves scheduler.rules ++ last_leaves scheduler.last (λ choice. choice)

-- the tokens of a scheduler, by those of its parts
unfoldable pub scheduler_leaves : Scheduler → List Leaf
scheduler_leaves = fold-Scheduler Leaves Leaves choice_step scheduler_step

-- design = { decl } "schedule" "{" sched "}"
abbrev pub tree_leaves : Tree → List Leaf
tree_leaves tree =
    flat_map declaration_leaves tree.declarations ++ placed (keyword keywords.Schedule) tree.schedule ++ in_braces (scheduler_leaves tree.scheduler)

-- the levels of the operators, from the loosest to the tightest
abbrev pub level_of : BinaryOperator → ℕ
level_of binary.Or = 1
level_of binary.Xor = 2
level_of binary.And = 3
level_of binary.Equal = 4
level_of binary.NotEqual = 4
level_of binary.Less = 5
level_of binary.LessOrEqual = 5
level_of binary.Greater = 5
level_of binary.GreaterOrEqual = 5
level_of binary.Concat = 6
level_of binary.ShiftLeft = 7
level_of binary.ShiftRight = 7
level_of binary.ShiftRightSigned = 7
level_of binary.Add = 8
level_of binary.Subtract = 8
level_of binary.Multiply = 9

-- an expression with its parts
abbrev ExpressionLayer : Type 0
ExpressionLayer = Expression-F Expression Statement Arm Block FieldValue Operand

-- the level of a chain is that of its first operator; one without operators, which no text has, is of level 0
abbrev pub level_of_chain : List Operand → ℕ
level_of_chain [] = 0
level_of_chain (operand ∷ operands) = level_of (out-Operand operand).operator

-- how tightly an expression holds together: 0 is an `if`, 1 to 9 a chain of that level, 10 a unary run, 11 a postfix,
-- 12 a primary
abbrev pub level_of_layer : ExpressionLayer → ℕ
level_of_layer (expression.If arms otherwise) = 0
level_of_layer (expression.Chain first rest) = level_of_chain rest
level_of_layer (expression.Unary prefixes operand) = 10
level_of_layer (expression.Postfix primary suffixes) = 11
level_of_layer _ = 12

-- how strongly an expression binds
abbrev pub level : Expression → ℕ
level e = level_of_layer (out-Expression e)

-- a name, a number and a literal in their ranges
abbrev pub IsName : Name → Type 0
IsName n = IsToken kinds.Name n.text

-- a number is below 2^32
abbrev pub NumberFits : Number → Type 0
NumberFits n = n.value < 2 ^ 32

-- a literal fits its width
abbrev pub LiteralFits : Literal → Type 0
LiteralFits l = IsBitVector l.bits.width l.bits.number

-- the number of a width is one
abbrev pub IsWidth : Width → Type 0
IsWidth w = NumberFits w.number

-- what a type's own names and numbers have to be
abbrev pub IsTypeLayer : TypeExpression-F TypeExpression → Type 0
IsTypeLayer (type_expression.Bits width) = IsWidth width
IsTypeLayer (type_expression.Named n) = IsName n
IsTypeLayer (type_expression.Array place element size) = NumberFits size

-- a type is one of the grammar's
unfoldable pub IsType : TypeExpression → Type 0
IsType = every-TypeExpression IsTypeLayer

-- what is repeated with commas is there at least once
abbrev pub IsNonempty : {X : Type 0} → List X → Type 0
IsNonempty xs = 0 < length xs

-- what a constant's own names, numbers and lists have to be
abbrev pub IsConstantLayer : Constant-F Constant ConstantField → Type 0
IsConstantLayer (constant.Literal l) = LiteralFits l
IsConstantLayer (constant.Member of member) = IsName of × IsName member
IsConstantLayer (constant.Struct of fields close) = IsName of × IsNonempty fields
IsConstantLayer (constant.Array place elements) = IsNonempty elements

-- a constant's field has a name
abbrev pub IsConstantFieldLayer : ConstantField-F Constant ConstantField → Type 0
IsConstantFieldLayer field = IsName field.name

-- a constant is one of the grammar's
unfoldable pub IsConstant : Constant → Type 0
IsConstant = every-Constant IsConstantLayer IsConstantFieldLayer

-- a suffix's name and numbers are such
abbrev pub IsSuffix : Suffix → Type 0
IsSuffix (suffixes.Field n) = IsName n
IsSuffix (suffixes.Index index) = NumberFits index
IsSuffix (suffixes.Slice high low) = NumberFits high × NumberFits low

-- an updated part's name or number is one
abbrev pub IsPart : UpdatedPart → Type 0
IsPart (parts.Field n) = IsName n
IsPart (parts.Index index) = NumberFits index

-- operands of a chain: each operator has the chain's level, and each operand holds together more tightly
abbrev pub IsOperandAt : ℕ → Operand → Type 0
IsOperandAt k operand = (level_of (out-Operand operand).operator ≡ k) × (k < level (out-Operand operand).operand)

-- what an expression's own names, numbers, lists and levels have to be
abbrev pub IsExpressionLayer : ExpressionLayer → Type 0
IsExpressionLayer (expression.If arms otherwise) = IsNonempty arms
IsExpressionLayer (expression.Chain first rest) =
    IsNonempty rest × (level_of_chain rest < level first) × All (IsOperandAt (level_of_chain rest)) rest
IsExpressionLayer (expression.Unary prefixes operand) = IsNonempty prefixes × (10 < level operand)
IsExpressionLayer (expression.Postfix primary suffixes) = (11 < level primary) × IsNonempty suffixes × All IsSuffix suffixes
IsExpressionLayer (expression.Literal l) = LiteralFits l
IsExpressionLayer (expression.Name n) = IsName n
IsExpressionLayer (expression.Call called arguments) = IsName called
IsExpressionLayer (expression.Member of member) = IsName of × IsName member
IsExpressionLayer (expression.Struct of fields close) = IsName of × IsNonempty fields
IsExpressionLayer (expression.Array place elements) = IsNonempty elements
IsExpressionLayer (expression.Parentheses place inside) = ⊤
IsExpressionLayer (expression.Block block) = ⊤
IsExpressionLayer (expression.Read place port register) = (port < 4) × IsName register
IsExpressionLayer (expression.Write place port register value) = (port < 4) × IsName register
IsExpressionLayer (expression.Abort place) = ⊤
IsExpressionLayer (expression.Pack place value) = ⊤
IsExpressionLayer (expression.Unpack place to value) = IsType to
IsExpressionLayer (expression.Extend place extension value width) = NumberFits width
IsExpressionLayer (expression.Compare place comparison left right) = ⊤
IsExpressionLayer (expression.Update place whole part value) = IsPart part

-- a bound name is a name
abbrev pub IsStatementLayer : Statement-F Expression Statement Arm Block FieldValue Operand → Type 0
IsStatementLayer (expression.Let n value) = IsName n
IsStatementLayer (expression.Do value) = ⊤

-- a condition is a chain, and no `if`
abbrev pub IsArmLayer : Arm-F Expression Statement Arm Block FieldValue Operand → Type 0
IsArmLayer arm = 0 < level arm.condition

-- nothing is asked of a block itself
abbrev pub IsBlockLayer : Block-F Expression Statement Arm Block FieldValue Operand → Type 0
IsBlockLayer block = ⊤

-- a field has a name
abbrev pub IsFieldValueLayer : FieldValue-F Expression Statement Arm Block FieldValue Operand → Type 0
IsFieldValueLayer field = IsName field.name

-- nothing is asked of an operand itself
abbrev pub IsOperandLayer : Operand-F Expression Statement Arm Block FieldValue Operand → Type 0
IsOperandLayer operand = ⊤

-- a block is one of the grammar's
unfoldable pub IsBlock : Block → Type 0
IsBlock = every-Block IsExpressionLayer IsStatementLayer IsArmLayer IsBlockLayer IsFieldValueLayer IsOperandLayer

-- a member has a name and a literal
abbrev pub IsMember : EnumMember → Type 0
IsMember member = IsName member.name × LiteralFits member.value

-- a field has a name and a type
abbrev pub IsField : Field → Type 0
IsField field = IsName field.name × IsType field.of

-- a declaration is one of the grammar's
abbrev pub IsDeclaration : Declaration → Type 0
IsDeclaration (declarations.Enum n width members) = IsName n × IsWidth width × IsNonempty members × All IsMember members
IsDeclaration (declarations.Struct n fields) = IsName n × IsNonempty fields × All IsField fields
IsDeclaration (declarations.Register n of first) = IsName n × IsType of × IsConstant first
IsDeclaration (declarations.Input n of) = IsName n × IsType of
IsDeclaration (declarations.Table n input output entries) = IsName n × IsWidth input × IsWidth output × IsNonempty entries × All LiteralFits entries
IsDeclaration (declarations.Host n input output) = IsName n × IsWidth input × IsWidth output
IsDeclaration (declarations.Function n parameters result body) = IsName n × All IsField parameters × IfSome result IsType × IsBlock body
IsDeclaration (declarations.Rule n body) = IsName n × IsBlock body
IsDeclaration (declarations.Assert n) = IsName n

-- a `try` has a name
abbrev pub IsChoiceLayer : Choice-F Choice Scheduler → Type 0
IsChoiceLayer choice = IsName choice.rule

-- the rules of a scheduler are names
abbrev pub IsSchedulerLayer : Scheduler-F Choice Scheduler → Type 0
IsSchedulerLayer scheduler = All IsName scheduler.rules

-- a scheduler is one of the grammar's
unfoldable pub IsScheduler : Scheduler → Type 0
IsScheduler = every-Scheduler IsChoiceLayer IsSchedulerLayer

-- a tree of the grammar
pub record IsDesign (tree : Tree) : Type 0 where
  pub declarations : All IsDeclaration tree.declarations
  pub scheduler : IsScheduler tree.scheduler

-- the tree derives these tokens of a text, and its places are theirs
pub record Derives (text : List ℕ) (tree : Tree) (tokens : List Token) : Type 0 where
  pub design : IsDesign tree
  pub leaves : AllZip (IsLeafAt text) (tree_leaves tree) tokens
