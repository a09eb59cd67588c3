-- The grammar as a reader of tokens, which gives the tree of each phrase. It checks no token that nothing depends on: it
-- is here to distinguish trees, and not to refuse texts.
use Rattle.std.proofs.Common.{ℕ, suc, Option, Some, None, List, [], ◌∷◌}
use Rattle.koika_syntax.specs.Grammar.{level_of}
use Rattle.koika_syntax.specs.Tree.{Terminal, name, number, literal, keyword, symbol}
use Rattle.koika_syntax.specs.declared.keyword.Keyword.{Keyword}
use Rattle.koika_syntax.specs.declared.keyword.Keyword.TheVariants as keywords
use Rattle.koika_syntax.specs.declared.operator.BinaryOperator.{BinaryOperator}
use Rattle.koika_syntax.specs.declared.operator.BinaryOperator.TheVariants as binary
use Rattle.koika_syntax.specs.declared.operator.Extension.TheVariants as extensions
use Rattle.koika_syntax.specs.declared.operator.SignedComparison.TheVariants as comparisons
use Rattle.koika_syntax.specs.declared.operator.UnaryOperator.TheVariants as unaries
use Rattle.koika_syntax.specs.declared.symbol.Symbol.{Symbol}
use Rattle.koika_syntax.specs.declared.symbol.Symbol.TheVariants as symbols
use Rattle.koika_syntax.specs.declared.tree.Arm.{Arm, roll-Arm}
use Rattle.koika_syntax.specs.declared.tree.Block.{Block, roll-Block}
use Rattle.koika_syntax.specs.declared.tree.Choice.{roll-Choice}
use Rattle.koika_syntax.specs.declared.tree.Constant.{Constant, roll-Constant}
use Rattle.koika_syntax.specs.declared.tree.Constant.TheOpen as constant
use Rattle.koika_syntax.specs.declared.tree.ConstantField.{roll-ConstantField}
use Rattle.koika_syntax.specs.declared.tree.Declaration.{Declaration}
use Rattle.koika_syntax.specs.declared.tree.Declaration.TheVariants as declarations
use Rattle.koika_syntax.specs.declared.tree.EnumMember.{EnumMember}
use Rattle.koika_syntax.specs.declared.tree.Expression.{Expression, roll-Expression}
use Rattle.koika_syntax.specs.declared.tree.Expression.TheOpen as expression
use Rattle.koika_syntax.specs.declared.tree.Field.{Field}
use Rattle.koika_syntax.specs.declared.tree.FieldValue.{roll-FieldValue}
use Rattle.koika_syntax.specs.declared.tree.Literal.{Literal}
use Rattle.koika_syntax.specs.declared.tree.Name.{Name}
use Rattle.koika_syntax.specs.declared.tree.Number.{Number}
use Rattle.koika_syntax.specs.declared.tree.Operand.{Operand, roll-Operand}
use Rattle.koika_syntax.specs.declared.tree.Prefix.{Prefix}
use Rattle.koika_syntax.specs.declared.tree.Scheduler.{Scheduler, roll-Scheduler}
use Rattle.koika_syntax.specs.declared.tree.Statement.{Statement, roll-Statement}
use Rattle.koika_syntax.specs.declared.tree.Suffix.{Suffix}
use Rattle.koika_syntax.specs.declared.tree.Suffix.TheVariants as suffixes
use Rattle.koika_syntax.specs.declared.tree.Tree.{Tree}
use Rattle.koika_syntax.specs.declared.tree.TypeExpression.{TypeExpression, roll-TypeExpression}
use Rattle.koika_syntax.specs.declared.tree.TypeExpression.TheOpen as type_expression
use Rattle.koika_syntax.specs.declared.tree.UpdatedPart.{UpdatedPart}
use Rattle.koika_syntax.specs.declared.tree.UpdatedPart.TheVariants as parts
use Rattle.koika_syntax.specs.declared.tree.Width.{Width}

-- the phrases that hold themselves, and what is read of each
pub data Phrase : Type 0 where
  a_type : Phrase
  a_constant : Phrase
  an_expression : Phrase
  some_prefixes : Phrase
  block_parts : Phrase
  if_branches : Phrase
  a_scheduler : Phrase

abbrev pub Result : Phrase → Type 0
Result a_type = TypeExpression
Result a_constant = Constant
Result an_expression = Expression
Result some_prefixes = List Prefix × Expression
Result block_parts = List Statement × Option Expression
Result if_branches = List Arm × Option Block
Result a_scheduler = Scheduler

-- a reader gives a result; refuses; reads a token and goes on by it; reads a part and goes on by it; goes on by how
-- tightly the next token holds; reads otherwise where it refuses; reads parts for as long as the next token holds so; or
-- reads a phrase
pub data Reader : Type 0 → Type 1 where
  give : {X : Type 0} → X → Reader X
  refuse : {X : Type 0} → Reader X
  on : {X : Type 0} → (Terminal → ℕ → Reader X) → Reader X
  then : {X Y : Type 0} → Reader X → (X → Reader Y) → Reader Y
  peek : {X : Type 0} → ℕ → Reader X → Reader X → Reader X
  or : {X : Type 0} → Reader X → Reader X → Reader X
  many : {X : Type 0} → ℕ → Reader X → Reader (List X)
  phrase : (s : Phrase) → Reader (Result s)

-- the operator of a symbol
abbrev binary_of : Symbol → Option BinaryOperator
binary_of symbols.Bar = Some binary.Or
binary_of symbols.Caret = Some binary.Xor
binary_of symbols.Ampersand = Some binary.And
binary_of symbols.EqualsEquals = Some binary.Equal
binary_of symbols.NotEquals = Some binary.NotEqual
binary_of symbols.Less = Some binary.Less
binary_of symbols.LessEquals = Some binary.LessOrEqual
binary_of symbols.Greater = Some binary.Greater
binary_of symbols.GreaterEquals = Some binary.GreaterOrEqual
binary_of symbols.PlusPlus = Some binary.Concat
binary_of symbols.LessLess = Some binary.ShiftLeft
binary_of symbols.GreaterGreater = Some binary.ShiftRight
binary_of symbols.GreaterGreaterGreater = Some binary.ShiftRightSigned
binary_of symbols.Plus = Some binary.Add
binary_of symbols.Minus = Some binary.Subtract
binary_of symbols.Star = Some binary.Multiply
binary_of _ = None

-- how tightly a token holds to what is before it: a comma to the parts of a list, `else` to an `if`, an operator by its
-- level, a suffix, what makes more of a name, the next rule, and the next declaration; no other token does
abbrev operator_grip : Option BinaryOperator → ℕ
operator_grip (Some operator) = suc (suc (level_of operator))
operator_grip None = 0

abbrev symbol_grip : Symbol → ℕ
symbol_grip symbols.Comma = 1
symbol_grip symbols.Dot = 13
symbol_grip symbols.LeftBracket = 13
symbol_grip symbols.LeftParenthesis = 14
symbol_grip symbols.ColonColon = 14
symbol_grip s = operator_grip (binary_of s)

abbrev keyword_grip : Keyword → ℕ
keyword_grip keywords.Else = 2
keyword_grip keywords.Enum = 16
keyword_grip keywords.Struct = 16
keyword_grip keywords.Reg = 16
keyword_grip keywords.Input = 16
keyword_grip keywords.Table = 16
keyword_grip keywords.Host = 16
keyword_grip keywords.Fun = 16
keyword_grip keywords.Rule = 16
keyword_grip keywords.Assert = 16
keyword_grip _ = 0

abbrev pub grip : Option Terminal → ℕ
grip (Some (symbol s)) = symbol_grip s
grip (Some (keyword k)) = keyword_grip k
grip (Some (name text)) = 15
grip _ = 0

-- a token that is not looked at; a name, a number, a literal; and parts with commas between them
abbrev pub skip : {X : Type 0} → Reader X → Reader X
skip r = on (λ t p. r)

abbrev pub with_name : {X : Type 0} → (Name → Reader X) → Terminal → ℕ → Reader X
with_name next (name text) p = next (record { text = text; place = p })
with_name next _ p = refuse

abbrev pub with_number : {X : Type 0} → (Number → Reader X) → Terminal → ℕ → Reader X
with_number next (number n) p = next (record { value = n; place = p })
with_number next _ p = refuse

abbrev pub with_literal : {X : Type 0} → (Literal → Reader X) → Terminal → ℕ → Reader X
with_literal next (literal bits) p = next (record { bits = bits; place = p })
with_literal next _ p = refuse

abbrev pub separated : {X : Type 0} → Reader X → Reader (List X)
separated r = then r (λ x. then (many 1 (skip r)) (λ xs. give (x ∷ xs)))

abbrev pub field_of : {X Y : Type 0} → Reader Y → (Name → Y → X) → Reader X
field_of r make = on (with_name (λ n. skip (then r (λ value. give (make n value)))))

-- `bits` and a number; types
abbrev pub with_width : {X : Type 0} → (Width → Reader X) → Terminal → ℕ → Reader X
with_width next (keyword keywords.Bits) p = on (with_number (λ n. next (record { place = p; number = n })))
with_width next _ p = refuse

abbrev pub type_at : Terminal → ℕ → Reader TypeExpression
type_at (keyword keywords.Bits) p = on (with_number (λ n. give (roll-TypeExpression (type_expression.Bits (record { place = p; number = n })))))
type_at (name text) p = give (roll-TypeExpression (type_expression.Named (record { text = text; place = p })))
type_at (symbol symbols.LeftBracket) p =
    then (phrase a_type) (λ element. skip (on (with_number (λ n. skip (give (roll-TypeExpression (type_expression.Array p element n)))))))
type_at _ p = refuse

-- what is after a name and `::`, in constants and in expressions; constants
abbrev pub after_colons : {F X : Type 0} → Reader F → (Name → X) → (List F → ℕ → X) → Terminal → ℕ → Reader X
after_colons field member struct (name text) p = give (member (record { text = text; place = p }))
after_colons field member struct (symbol symbols.LeftBrace) p = then (separated field) (λ fields. on (λ t close. give (struct fields close)))
after_colons field member struct _ p = refuse

abbrev pub constant_at : Terminal → ℕ → Reader Constant
constant_at (literal bits) p = give (roll-Constant (constant.Literal (record { bits = bits; place = p })))
constant_at (name text) p =
    let of : Name = record { text = text; place = p } in
    skip (on (after_colons (field_of (phrase a_constant) (λ n value. roll-ConstantField (record { name = n; value = value })))
    (λ member. roll-Constant (constant.Member of member)) (λ fields close. roll-Constant (constant.Struct of fields close))))
constant_at (symbol symbols.LeftBracket) p = then (separated (phrase a_constant)) (λ elements. skip (give (roll-Constant (constant.Array p elements))))
constant_at _ p = refuse

-- a block: statements and a last expression up to its closing bracket
abbrev pub after_expression : Expression → Terminal → ℕ → Reader (List Statement × Option Expression)
after_expression e (symbol symbols.Semicolon) p = then (phrase block_parts) (λ more. give (roll-Statement (expression.Do e) ∷ more.0, more.1))
after_expression e (symbol symbols.RightBrace) p = give ([], Some e)
after_expression e _ p = refuse

abbrev pub inside_at : Terminal → ℕ → Reader (List Statement × Option Expression)
inside_at (keyword keywords.Let) p =
    on (with_name (λ n. skip (then (phrase an_expression) (λ e. skip (then (phrase block_parts) (λ more. give (roll-Statement (expression.Let n e) ∷ more.0, more.1)))))))
inside_at (symbol symbols.RightBrace) p = give ([], None)
inside_at _ p = refuse

abbrev pub made_block : ℕ → List Statement × Option Expression → Block
made_block p parts = roll-Block (record { place = p; statements = parts.0; value = parts.1 })

abbrev pub block_at : Terminal → ℕ → Reader Block
block_at (symbol symbols.LeftBrace) p = then (phrase block_parts) (λ parts. give (made_block p parts))
block_at _ p = refuse

-- an `if`: its first arm, and what is after it
abbrev pub arm : ℕ → Reader Arm
arm p = then (phrase an_expression) (λ condition. then (on block_at) (λ body. give (roll-Arm (record { place = p; condition = condition; body = body }))))

abbrev pub branch_at : Terminal → ℕ → Reader (List Arm × Option Block)
branch_at (keyword keywords.If) p = then (arm p) (λ a. then (phrase if_branches) (λ more. give (a ∷ more.0, more.1)))
branch_at (symbol symbols.LeftBrace) p = then (phrase block_parts) (λ parts. give ([], Some (made_block p parts)))
branch_at _ p = refuse

abbrev pub if_at : Terminal → ℕ → Reader Expression
if_at (keyword keywords.If) p = then (arm p) (λ a. then (phrase if_branches) (λ more. give (roll-Expression (expression.If (a ∷ more.0) more.1))))
if_at _ p = refuse

-- the arguments of a keyword
abbrev pub words1 : {A : Type 0} → Reader A → (A → Expression) → Reader Expression
words1 a make = skip (then a (λ x. skip (give (make x))))

abbrev pub words2 : {A B : Type 0} → Reader A → Reader B → (A → B → Expression) → Reader Expression
words2 a b make = skip (then a (λ x. skip (then b (λ y. skip (give (make x y))))))

abbrev pub words3 : {A B C : Type 0} → Reader A → Reader B → Reader C → (A → B → C → Expression) → Reader Expression
words3 a b c make = skip (then a (λ x. skip (then b (λ y. skip (then c (λ z. skip (give (make x y z))))))))

abbrev pub part_at : Terminal → ℕ → Reader UpdatedPart
part_at (name text) p = give (parts.Field (record { text = text; place = p }))
part_at (number n) p = give (parts.Index (record { value = n; place = p }))
part_at _ p = refuse

abbrev e : Reader Expression
e = phrase an_expression

abbrev read : ℕ → ℕ → Reader Expression
read p port = words1 (on (with_name give)) (λ n. roll-Expression (expression.Read p port n))

abbrev write : ℕ → ℕ → Reader Expression
write p port = words2 (on (with_name give)) e (λ n value. roll-Expression (expression.Write p port n value))

-- a primary
abbrev pub keyword_at : Keyword → ℕ → Reader Expression
keyword_at keywords.Read0 p = read p 0
keyword_at keywords.Read1 p = read p 1
keyword_at keywords.Read2 p = read p 2
keyword_at keywords.Read3 p = read p 3
keyword_at keywords.Write0 p = write p 0
keyword_at keywords.Write1 p = write p 1
keyword_at keywords.Write2 p = write p 2
keyword_at keywords.Write3 p = write p 3
keyword_at keywords.Abort p = give (roll-Expression (expression.Abort p))
keyword_at keywords.Pack p = words1 e (λ value. roll-Expression (expression.Pack p value))
keyword_at keywords.Unpack p = words2 (phrase a_type) e (λ to value. roll-Expression (expression.Unpack p to value))
keyword_at keywords.Zext p = words2 e (on (with_number give)) (λ value width. roll-Expression (expression.Extend p extensions.Zero value width))
keyword_at keywords.Sext p = words2 e (on (with_number give)) (λ value width. roll-Expression (expression.Extend p extensions.Sign value width))
keyword_at keywords.Slt p = words2 e e (λ left right. roll-Expression (expression.Compare p comparisons.Less left right))
keyword_at keywords.Sle p = words2 e e (λ left right. roll-Expression (expression.Compare p comparisons.LessOrEqual left right))
keyword_at keywords.Sgt p = words2 e e (λ left right. roll-Expression (expression.Compare p comparisons.Greater left right))
keyword_at keywords.Sge p = words2 e e (λ left right. roll-Expression (expression.Compare p comparisons.GreaterOrEqual left right))
keyword_at keywords.Update p = words3 e (on part_at) e (λ whole part value. roll-Expression (expression.Update p whole part value))
keyword_at _ p = refuse

abbrev pub named_at : Name → Terminal → ℕ → Reader Expression
named_at n (symbol symbols.LeftParenthesis) p =
    or (then (separated e) (λ arguments. skip (give (roll-Expression (expression.Call n arguments))))) (skip (give (roll-Expression (expression.Call n []))))
named_at n (symbol symbols.ColonColon) p =
    on (after_colons (field_of e (λ n value. roll-FieldValue (record { name = n; value = value })))
    (λ member. roll-Expression (expression.Member n member)) (λ fields close. roll-Expression (expression.Struct n fields close)))
named_at n _ p = refuse

abbrev pub primary_at : Terminal → ℕ → Reader Expression
primary_at (literal bits) p = give (roll-Expression (expression.Literal (record { bits = bits; place = p })))
primary_at (name text) p =
    let n : Name = record { text = text; place = p } in
    peek 14 (on (named_at n)) (give (roll-Expression (expression.Name n)))
primary_at (keyword k) p = keyword_at k p
primary_at (symbol symbols.LeftBracket) p = then (separated e) (λ elements. skip (give (roll-Expression (expression.Array p elements))))
primary_at (symbol symbols.LeftParenthesis) p = then e (λ x. skip (give (roll-Expression (expression.Parentheses p x))))
primary_at (symbol symbols.LeftBrace) p = then (phrase block_parts) (λ parts. give (roll-Expression (expression.Block (made_block p parts))))
primary_at _ p = refuse

-- suffixes, prefixes and chains; an expression with none of them is itself
abbrev pub index_at : Number → Terminal → ℕ → Reader Suffix
index_at i (symbol symbols.Colon) p = on (with_number (λ low. skip (give (suffixes.Slice i low))))
index_at i _ p = give (suffixes.Index i)

abbrev pub suffix_at : Terminal → ℕ → Reader Suffix
suffix_at (symbol symbols.LeftBracket) p = on (with_number (λ i. on (index_at i)))
suffix_at _ p = on (with_name (λ n. give (suffixes.Field n)))

abbrev pub postfixed : Expression → List Suffix → Expression
postfixed x [] = x
postfixed x (s ∷ ss) = roll-Expression (expression.Postfix x (s ∷ ss))

abbrev pub postfix : Reader Expression
postfix = then (on primary_at) (λ x. then (many 13 (on suffix_at)) (λ ss. give (postfixed x ss)))

abbrev pub prefix_at : {X : Type 0} → (Prefix → Reader X) → Terminal → ℕ → Reader X
prefix_at next (symbol symbols.Tilde) p = next (record { operator = unaries.Not; place = p })
prefix_at next (symbol symbols.Minus) p = next (record { operator = unaries.Negate; place = p })
prefix_at next _ p = refuse

abbrev pub more_prefixes : Prefix → Reader (List Prefix × Expression)
more_prefixes o = then (phrase some_prefixes) (λ more. give (o ∷ more.0, more.1))

abbrev pub prefixed : Prefix → Reader Expression
prefixed o = then (phrase some_prefixes) (λ more. give (roll-Expression (expression.Unary (o ∷ more.0) more.1)))

abbrev pub unary : Reader Expression
unary = or postfix (on (prefix_at prefixed))

abbrev pub operand_of : Reader Expression → Option BinaryOperator → Reader Operand
operand_of tighter None = refuse
operand_of tighter (Some o) = then tighter (λ x. give (roll-Operand (record { operator = o; operand = x })))

abbrev pub operand_at : Reader Expression → Terminal → ℕ → Reader Operand
operand_at tighter (symbol s) p = operand_of tighter (binary_of s)
operand_at tighter _ p = refuse

abbrev pub chained : Expression → List Operand → Expression
chained x [] = x
chained x (o ∷ os) = roll-Expression (expression.Chain x (o ∷ os))

abbrev pub chain : ℕ → Reader Expression → Reader Expression
chain k tighter = then tighter (λ x. then (many (suc (suc k)) (on (operand_at tighter))) (λ os. give (chained x os)))

abbrev pub level1 : Reader Expression
level1 = chain 1 (chain 2 (chain 3 (chain 4 (chain 5 (chain 6 (chain 7 (chain 8 (chain 9 unary))))))))

-- declarations
abbrev pub member : Reader EnumMember
member = on (with_name (λ n. skip (on (with_literal (λ l. give (record { name = n; value = l }))))))

abbrev pub field : Reader Field
field = field_of (phrase a_type) (λ n of. record { name = n; of = of })

abbrev pub result : Reader (Option TypeExpression)
result = or (then (phrase a_type) (λ of. give (Some of))) (skip (give None))

abbrev pub after_parameters : Name → List Field → Reader Declaration
after_parameters n parameters = skip (then result (λ of. then (on block_at) (λ body. give (declarations.Function n parameters of body))))

abbrev with_map : (Width → Width → Reader Declaration) → Reader Declaration
with_map next = skip (on (with_width (λ input. skip (on (with_width (λ output. next input output))))))

abbrev pub declaration_of : Keyword → Name → Reader Declaration
declaration_of keywords.Enum n = skip (on (with_width (λ width. skip (then (separated member) (λ members. skip (give (declarations.Enum n width members)))))))
declaration_of keywords.Struct n = skip (then (separated field) (λ fields. skip (give (declarations.Struct n fields))))
declaration_of keywords.Reg n = skip (then (phrase a_type) (λ of. skip (then (phrase a_constant) (λ first. skip (give (declarations.Register n of first))))))
declaration_of keywords.Input n = skip (then (phrase a_type) (λ of. skip (give (declarations.Input n of))))
declaration_of keywords.Table n = with_map (λ input output. skip (then (separated (on (with_literal give))) (λ entries. skip (give (declarations.Table n input output entries)))))
declaration_of keywords.Host n = with_map (λ input output. skip (give (declarations.Host n input output)))
declaration_of keywords.Fun n = skip (or (then (separated field) (λ parameters. skip (after_parameters n parameters))) (skip (after_parameters n [])))
declaration_of keywords.Rule n = then (on block_at) (λ body. give (declarations.Rule n body))
declaration_of keywords.Assert n = skip (give (declarations.Assert n))
declaration_of _ n = refuse

abbrev pub declaration_at : Terminal → ℕ → Reader Declaration
declaration_at (keyword k) p = on (with_name (declaration_of k))
declaration_at _ p = refuse

-- a scheduler up to its closing bracket, and the whole design
abbrev pub rule : Reader Name
rule = on (with_name (λ n. skip (give n)))

abbrev pub last_at : List Name → Terminal → ℕ → Reader Scheduler
last_at rules (keyword keywords.Try) p =
    on (with_name (λ n. skip (skip (then (phrase a_scheduler) (λ fires. skip (skip (then (phrase a_scheduler) (λ waits.
    skip (give (roll-Scheduler (record { rules = rules; last = Some (roll-Choice (record { rule = n; then = fires; otherwise = waits })) })))))))))))
last_at rules (symbol symbols.RightBrace) p = give (roll-Scheduler (record { rules = rules; last = None }))
last_at rules _ p = refuse

abbrev pub design : Reader Tree
design =
    then (many 16 (on declaration_at)) (λ all. on (λ t p. skip (then (phrase a_scheduler) (λ scheduler.
    give (record { declarations = all; schedule = p; scheduler = scheduler })))))

abbrev pub grammar : (s : Phrase) → Reader (Result s)
grammar a_type = on type_at
grammar a_constant = on constant_at
grammar an_expression = or level1 (on if_at)
grammar some_prefixes = or (then postfix (λ x. give ([], x))) (on (prefix_at more_prefixes))
grammar block_parts = or (then e (λ x. on (after_expression x))) (on inside_at)
grammar if_branches = peek 2 (skip (on branch_at)) (give ([], None))
grammar a_scheduler = then (many 15 rule) (λ rules. on (last_at rules))
