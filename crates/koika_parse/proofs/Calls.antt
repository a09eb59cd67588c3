-- The leaves of the parts that `koika_syntax` has no lemma for.
use Rattle.std.proofs.Common.{◌≡◌, ℕ, List, [], ◌∷◌, ◌++◌, append_assoc, append-nil, map, Option, None, Some, ap, sym, ◌∙◌, refl}
use Rattle.std.specs.List.{flat_map}
use Rattle.koika_syntax.specs.Grammar.{last_leaves, rule_leaves, scheduler_leaves, constant_leaves, type_leaves, prefix_leaves, suffix_leaves, block_leaves}
use Rattle.koika_syntax.specs.inner.Grammar.{choice_leaves, constant_field_leaves, expression_leaves, statement_leaves, arm_leaves, field_value_leaves, operand_leaves}
use Rattle.koika_syntax.specs.Tree.{Leaf, name_leaves, number_leaves, width_leaves, literal_leaves, sign, word, placed, symbol}
use Rattle.koika_syntax.specs.Tree.{keyword, with_between, in_parentheses, in_braces, all_of, binary_symbol}
use Rattle.koika_syntax.specs.Tree.{extension_word, read_word, write_word}
use Rattle.koika_syntax.specs.declared.keyword.Keyword.TheVariants as keywords
use Rattle.koika_syntax.specs.declared.symbol.Symbol.TheVariants as symbols
use Rattle.koika_syntax.specs.declared.operator.Extension.{Extension}
use Rattle.koika_syntax.specs.declared.tree.Expression.{Expression}
use Rattle.koika_syntax.specs.declared.tree.Expression.TheViews as views
use Rattle.koika_syntax.specs.declared.tree.Constant.{Constant}
use Rattle.koika_syntax.specs.declared.tree.Constant.TheViews as constant_views
use Rattle.koika_syntax.specs.declared.tree.Statement.{Statement}
use Rattle.koika_syntax.specs.declared.operator.BinaryOperator.{BinaryOperator}
use Rattle.koika_syntax.specs.declared.tree.Arm.{roll-Arm, out-roll-Arm}
use Rattle.koika_syntax.specs.declared.tree.Block.{Block, roll-Block, out-roll-Block}
use Rattle.koika_syntax.specs.declared.tree.Choice.{Choice, roll-Choice, out-roll-Choice}
use Rattle.koika_syntax.specs.declared.tree.ConstantField.{roll-ConstantField, out-roll-ConstantField}
use Rattle.koika_syntax.specs.declared.tree.FieldValue.{roll-FieldValue, out-roll-FieldValue}
use Rattle.koika_syntax.specs.declared.tree.Operand.{roll-Operand, out-roll-Operand}
use Rattle.koika_syntax.specs.declared.tree.Scheduler.{Scheduler, roll-Scheduler, out-roll-Scheduler}
use Rattle.koika_syntax.specs.declared.tree.Name.{Name}
use Rattle.koika_syntax.specs.declared.tree.Number.{Number}
use Rattle.koika_syntax.specs.declared.tree.Literal.{Literal}
use Rattle.koika_syntax.specs.declared.tree.Prefix.{Prefix}
use Rattle.koika_syntax.specs.declared.tree.Suffix.{Suffix}
use Rattle.koika_syntax.specs.declared.tree.TypeExpression.{TypeExpression}
use Rattle.koika_syntax.specs.declared.tree.TypeExpression.TheViews as type_views
use Rattle.koika_syntax.specs.declared.tree.Width.{Width}
use Rattle.koika_parse.proofs.Layers.{type_leaves_by, constant_leaves_by, constant_field_leaves_by, expression_leaves_by, statement_leaves_by, arm_leaves_by}
use Rattle.koika_parse.proofs.Layers.{block_leaves_by, field_value_leaves_by, operand_leaves_by, choice_leaves_by, scheduler_leaves_by}

one : (s x : List Leaf) → with_between s (x ∷ []) ≡ x
unfolding with_between
one s x = append-nil x

two : (s x y : List Leaf) → with_between s (x ∷ y ∷ []) ≡ x ++ s ++ y
unfolding with_between
two s x y = ap (λ t. x ++ t) (append-nil (s ++ y)) ∙ sym (append_assoc x s y)

pub leaves_unary : (prefixes : List Prefix) (operand : Expression) → expression_leaves (views.Unary prefixes operand) ≡ flat_map prefix_leaves prefixes ++ expression_leaves operand
leaves_unary prefixes operand = expression_leaves_by _ _ (views.outs-Unary prefixes operand)

pub leaves_postfix :
    (primary : Expression) (suffixes : List Suffix) →
    expression_leaves (views.Postfix primary suffixes) ≡
    expression_leaves primary ++ flat_map suffix_leaves suffixes
leaves_postfix primary suffixes = expression_leaves_by _ _ (views.outs-Postfix primary suffixes)

pub leaves_literal : (l : Literal) → expression_leaves (views.made-Literal l) ≡ literal_leaves l
leaves_literal l = expression_leaves_by _ _ (views.outs-Literal l)

pub leaves_name : (n : Name) → expression_leaves (views.made-Name n) ≡ name_leaves n
leaves_name n = expression_leaves_by _ _ (views.outs-Name n)

pub leaves_member : (of member : Name) → expression_leaves (views.made-Member of member) ≡ name_leaves of ++ sign symbols.ColonColon ++ name_leaves member
leaves_member of member = expression_leaves_by _ _ (views.outs-Member of member)

pub leaves_parentheses :
    (place : ℕ) (inside : Expression) →
    expression_leaves (views.Parentheses place inside) ≡
    placed (symbol symbols.LeftParenthesis) place ++ expression_leaves inside ++ sign symbols.RightParenthesis
leaves_parentheses place inside = expression_leaves_by _ _ (views.outs-Parentheses place inside)

pub leaves_abort : (place : ℕ) → expression_leaves (views.made-Abort place) ≡ placed (keyword keywords.Abort) place
leaves_abort place = expression_leaves_by _ _ (views.outs-Abort place)

pub leaves_read : (place port : ℕ) (register : Name) → expression_leaves (views.made-Read place port register) ≡ placed (keyword (read_word port)) place ++ in_parentheses (name_leaves register)
leaves_read place port register = expression_leaves_by _ _ (views.outs-Read place port register) ∙
    ap (λ inside. placed (keyword (read_word port)) place ++ in_parentheses inside) (one (sign symbols.Comma) (name_leaves register))

pub leaves_write :
    (place port : ℕ) (register : Name) (value : Expression) →
    expression_leaves (views.Write place port register value) ≡
    placed (keyword (write_word port)) place ++
    in_parentheses (name_leaves register ++ sign symbols.Comma ++ expression_leaves value)
leaves_write place port register value = expression_leaves_by _ _ (views.outs-Write place port register value) ∙
    ap (λ inside. placed (keyword (write_word port)) place ++ in_parentheses inside) (two (sign symbols.Comma) (name_leaves register) (expression_leaves value))

pub leaves_pack : (place : ℕ) (value : Expression) → expression_leaves (views.Pack place value) ≡ placed (keyword keywords.Pack) place ++ in_parentheses (expression_leaves value)
leaves_pack place value = expression_leaves_by _ _ (views.outs-Pack place value) ∙
    ap (λ inside. placed (keyword keywords.Pack) place ++ in_parentheses inside) (one (sign symbols.Comma) (expression_leaves value))

pub leaves_unpack :
    (place : ℕ) (to : TypeExpression) (value : Expression) →
    expression_leaves (views.Unpack place to value) ≡
    placed (keyword keywords.Unpack) place ++
    in_parentheses (type_leaves to ++ sign symbols.Comma ++ expression_leaves value)
leaves_unpack place to value = expression_leaves_by _ _ (views.outs-Unpack place to value) ∙
    ap (λ inside. placed (keyword keywords.Unpack) place ++ in_parentheses inside) (two (sign symbols.Comma) (type_leaves to) (expression_leaves value))

pub leaves_extend :
    (place : ℕ) (extension : Extension) (value : Expression) (width : Number) →
    expression_leaves (views.Extend place extension value width) ≡
    placed (keyword (extension_word extension)) place ++
    in_parentheses (expression_leaves value ++ sign symbols.Comma ++ number_leaves width)
leaves_extend place extension value width = expression_leaves_by _ _ (views.outs-Extend place extension value width) ∙
    ap (λ inside. placed (keyword (extension_word extension)) place ++ in_parentheses inside) (two (sign symbols.Comma) (expression_leaves value) (number_leaves width))

pub leaves_let :
    (n : Name) (value : Expression) →
    statement_leaves (views.made-Let n value) ≡
    word keywords.Let ++ name_leaves n ++ sign symbols.Equals ++ expression_leaves value ++ sign symbols.Semicolon
leaves_let n value = statement_leaves_by _ _ (views.outs-Let n value)

pub leaves_do : (value : Expression) → statement_leaves (views.made-Do value) ≡ expression_leaves value ++ sign symbols.Semicolon
leaves_do value = statement_leaves_by _ _ (views.outs-Do value)

pub leaves_constant_literal : (l : Literal) → constant_leaves (constant_views.made-Literal l) ≡ literal_leaves l
leaves_constant_literal l = constant_leaves_by _ _ (constant_views.outs-Literal l)

pub leaves_constant_member : (of member : Name) → constant_leaves (constant_views.made-Member of member) ≡ name_leaves of ++ sign symbols.ColonColon ++ name_leaves member
leaves_constant_member of member = constant_leaves_by _ _ (constant_views.outs-Member of member)

pub leaves_width_type : (width : Width) → type_leaves (type_views.made-Bits width) ≡ width_leaves width
leaves_width_type width = type_leaves_by _ _ (type_views.outs-Bits width)

pub leaves_named_type : (n : Name) → type_leaves (type_views.made-Named n) ≡ name_leaves n
leaves_named_type n = type_leaves_by _ _ (type_views.outs-Named n)

pub leaves_array_type : (place : ℕ) (element : TypeExpression) (size : Number) →
    type_leaves (type_views.Array place element size) ≡
    placed (symbol symbols.LeftBracket) place ++ type_leaves element ++ sign symbols.Semicolon ++ number_leaves size ++ sign symbols.RightBracket
leaves_array_type place element size = type_leaves_by _ _ (type_views.outs-Array place element size)

-- parts one after another
pub all_of_map : {X : Type 0} (leaves : X → List Leaf) (xs : List X) → flat_map leaves xs ≡ flat_map (λ part. part) (map leaves xs)
all_of_map leaves [] = refl
all_of_map leaves (x ∷ xs) = ap (λ t. leaves x ++ t) (all_of_map leaves xs)

-- the leaves of what holds no list of its own kind
pub leaves_constant_field :
    (n : Name) (value : Constant) →
    constant_field_leaves (roll-ConstantField (record { name = n; value = value })) ≡
    name_leaves n ++ sign symbols.Colon ++ constant_leaves value
leaves_constant_field n value = constant_field_leaves_by _ _ (out-roll-ConstantField (record { name = n; value = value }))

pub leaves_field_value : (n : Name) (value : Expression) → field_value_leaves (roll-FieldValue (record { name = n; value = value })) ≡ name_leaves n ++ sign symbols.Colon ++ expression_leaves value
leaves_field_value n value = field_value_leaves_by _ _ (out-roll-FieldValue (record { name = n; value = value }))

pub leaves_operand :
    (operator : BinaryOperator) (operand : Expression) →
    operand_leaves (roll-Operand (record { operator = operator; operand = operand })) ≡
    sign (binary_symbol operator) ++ expression_leaves operand
leaves_operand operator operand = operand_leaves_by _ _ (out-roll-Operand (record { operator = operator; operand = operand }))

pub leaves_arm :
    (place : ℕ) (condition : Expression) (body : Block) →
    arm_leaves (roll-Arm (record { place = place; condition = condition; body = body })) ≡
    placed (keyword keywords.If) place ++ expression_leaves condition ++ block_leaves body
leaves_arm place condition body = arm_leaves_by _ _ (out-roll-Arm (record { place = place; condition = condition; body = body }))

pub leaves_block : (place : ℕ) (statements : List Statement) (value : Option Expression) →
    block_leaves (roll-Block (record { place = place; statements = statements; value = value })) ≡
    placed (symbol symbols.LeftBrace) place ++ all_of (map statement_leaves statements) ++
    last_leaves value expression_leaves ++ sign symbols.RightBrace
leaves_block place statements None = block_leaves_by _ _ (out-roll-Block (record { place = place; statements = statements; value = None }))
leaves_block place statements (Some last) = block_leaves_by _ _ (out-roll-Block (record { place = place; statements = statements; value = Some last }))

pub leaves_choice : (rule : Name) (taken other : Scheduler) → choice_leaves (roll-Choice (record { rule = rule; then = taken; otherwise = other })) ≡
    word keywords.Try ++ name_leaves rule ++ word keywords.Then ++ in_braces (scheduler_leaves taken) ++ word keywords.Else ++ in_braces (scheduler_leaves other)
leaves_choice rule taken other = choice_leaves_by _ _ (out-roll-Choice (record { rule = rule; then = taken; otherwise = other }))

pub leaves_scheduler :
    (rules : List Name) (last : Option Choice) →
    scheduler_leaves (roll-Scheduler (record { rules = rules; last = last })) ≡
    flat_map rule_leaves rules ++ last_leaves last choice_leaves
leaves_scheduler rules None = scheduler_leaves_by _ _ (out-roll-Scheduler (record { rules = rules; last = None }))
leaves_scheduler rules (Some choice) = scheduler_leaves_by _ _ (out-roll-Scheduler (record { rules = rules; last = Some choice }))
