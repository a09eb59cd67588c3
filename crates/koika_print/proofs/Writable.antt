-- The tokens of a tree of the grammar can be written.
use Rattle.std.proofs.Common.{◌≡◌, ℕ, Option, None, Some, IfSome, List, [], ◌∷◌, ◌++◌, map, sym, subst, ◌∙◌}
use Rattle.std.specs.Prelude.{⊤}
use Rattle.std.specs.List.{All, AllByRecursion, flat_map}
use Rattle.std.proofs.lemmas.List.Elements.{recursion_from_All}
use Rattle.koika_syntax.specs.Tree.{Leaf, sign, word, commas, with_between, all_of, placed, symbol, in_parentheses, in_braces, name_leaves, number_leaves, literal_leaves, keyword}
use Rattle.koika_syntax.specs.declared.keyword.Keyword.TheVariants as keywords
use Rattle.koika_syntax.specs.declared.symbol.Symbol.TheVariants as symbols
use Rattle.koika_syntax.specs.Grammar.{IsName, LiteralFits, IsType, IsTypeLayer, IsMember, IsField, IsConstant, IsConstantLayer, IsConstantFieldLayer, IsBlock, IsExpressionLayer, IsStatementLayer, IsArmLayer, IsBlockLayer, IsFieldValueLayer, IsOperandLayer, IsSuffix, IsPart, IsDeclaration, IsScheduler, IsSchedulerLayer, IsChoiceLayer, IsDesign, type_leaves, type_step, constant_leaves, constant_step, constant_field_step, block_leaves, expression_step, statement_step, arm_step, block_step, field_value_step, operand_step, prefix_leaves, suffix_leaves, part_leaves, member_leaves, field_leaves, result_leaves, declaration_leaves, rule_leaves, choice_step, scheduler_step, scheduler_leaves, tree_leaves}
use Rattle.koika_syntax.specs.inner.Grammar.{IsExpression, constant_field_leaves, expression_leaves, statement_leaves, arm_leaves, field_value_leaves, operand_leaves, choice_leaves}
use Rattle.koika_syntax.specs.declared.tree.Expression.{Expression, Expression-F, map-Expression, roll-Expression, every_held-Expression, every_here-Expression, out-roll-Expression, fold-roll-Expression, ind-Expression}
use Rattle.koika_syntax.specs.declared.tree.Statement.{Statement, Statement-F, map-Statement, roll-Statement, every-Statement, every_held-Statement, every_here-Statement, out-roll-Statement, fold-roll-Statement}
use Rattle.koika_syntax.specs.declared.tree.Arm.{Arm, Arm-F, map-Arm, roll-Arm, every-Arm, every_held-Arm, every_here-Arm, out-roll-Arm, fold-roll-Arm}
use Rattle.koika_syntax.specs.declared.tree.Block.{Block, Block-F, map-Block, roll-Block, every_held-Block, every_here-Block, out-roll-Block, fold-roll-Block, ind-Block}
use Rattle.koika_syntax.specs.declared.tree.FieldValue.{FieldValue, FieldValue-F, map-FieldValue, roll-FieldValue, every-FieldValue, every_held-FieldValue, every_here-FieldValue, out-roll-FieldValue, fold-roll-FieldValue}
use Rattle.koika_syntax.specs.declared.tree.Operand.{Operand, Operand-F, map-Operand, roll-Operand, every-Operand, every_held-Operand, every_here-Operand, out-roll-Operand, fold-roll-Operand}
use Rattle.koika_syntax.specs.declared.tree.Constant.{Constant, Constant-F, map-Constant, roll-Constant, every_held-Constant, every_here-Constant, out-roll-Constant, fold-roll-Constant, ind-Constant}
use Rattle.koika_syntax.specs.declared.tree.ConstantField.{ConstantField, ConstantField-F, map-ConstantField, roll-ConstantField, every-ConstantField, every_held-ConstantField, every_here-ConstantField, out-roll-ConstantField, fold-roll-ConstantField}
use Rattle.koika_syntax.specs.declared.tree.Choice.{Choice, Choice-F, map-Choice, roll-Choice, every-Choice, every_held-Choice, every_here-Choice, out-roll-Choice, fold-roll-Choice}
use Rattle.koika_syntax.specs.declared.tree.Scheduler.{Scheduler, Scheduler-F, map-Scheduler, roll-Scheduler, every_held-Scheduler, every_here-Scheduler, out-roll-Scheduler, fold-roll-Scheduler, ind-Scheduler}
use Rattle.koika_syntax.specs.declared.tree.Constant.TheOpen as constant
use Rattle.koika_syntax.specs.declared.tree.Declaration.{Declaration}
use Rattle.koika_syntax.specs.declared.tree.Declaration.TheVariants as declarations
use Rattle.koika_syntax.specs.declared.tree.Expression.TheOpen as expression
use Rattle.koika_syntax.specs.declared.tree.Field.{Field}
use Rattle.koika_syntax.specs.declared.tree.Literal.{Literal}
use Rattle.koika_syntax.specs.declared.tree.EnumMember.{EnumMember}
use Rattle.koika_syntax.specs.declared.tree.Name.{Name}
use Rattle.koika_syntax.specs.declared.tree.UpdatedPart.{UpdatedPart}
use Rattle.koika_syntax.specs.declared.tree.UpdatedPart.TheVariants as parts
use Rattle.koika_syntax.specs.declared.tree.Prefix.{Prefix}
use Rattle.koika_syntax.specs.declared.tree.Suffix.{Suffix}
use Rattle.koika_syntax.specs.declared.tree.Suffix.TheVariants as suffixes
use Rattle.koika_syntax.specs.declared.tree.Tree.{Tree}
use Rattle.koika_syntax.specs.declared.tree.TypeExpression.{TypeExpression, TypeExpression-F, map-TypeExpression, roll-TypeExpression, every_held-TypeExpression, every_here-TypeExpression, out-roll-TypeExpression, fold-roll-TypeExpression, ind-TypeExpression}
use Rattle.koika_syntax.specs.declared.tree.TypeExpression.TheOpen as types
use Rattle.koika_syntax.proofs.TreeParts.{Such, IsArm, IsConstantField, IsFieldValue, IsOperand, IsStatement, EachOfConstant, EachOfExpression, EachOfStatement, EachOfArm, EachOfBlock, EachOfFieldValue, EachOfOperand, each_of_expression, each_of_statement, each_of_arm, each_of_block, each_of_field_value, each_of_operand, each_of_constant}
use Rattle.koika_print.specs.Printed.{AreWritable}

-- tokens one after another
pub together : (xs ys : List Leaf) → AreWritable xs → AreWritable ys → AreWritable (xs ++ ys)
together [] ys w v = v
together (x ∷ xs) ys w v = (w.0, together xs ys w.1 v)

all_together : {X : Type 0} (leaves : X → List Leaf) (xs : List X) → AllByRecursion (λ x. AreWritable (leaves x)) xs → AreWritable (flat_map leaves xs)
all_together leaves [] each = tt
all_together leaves (x ∷ xs) each = together (leaves x) (flat_map leaves xs) each.0 (all_together leaves xs each.1)

mapped : {X : Type 0} (leaves : X → List Leaf) (xs : List X) → AllByRecursion (λ x. AreWritable (leaves x)) xs → AllByRecursion AreWritable (map leaves xs)
mapped leaves [] each = tt
mapped leaves (x ∷ xs) each = (each.0, mapped leaves xs each.1)

after_each : (between : List Leaf) → AreWritable between → (parts : List (List Leaf)) → AllByRecursion AreWritable parts → AreWritable (flat_map (λ part. between ++ part) parts)
after_each between w [] each = tt
after_each between w (part ∷ parts) each = together (between ++ part) (flat_map (λ part. between ++ part) parts) (together between part w each.0) (after_each between w parts each.1)

joined_by : (between : List Leaf) → AreWritable between → (parts : List (List Leaf)) → AllByRecursion AreWritable parts → AreWritable (with_between between parts)
unfolding with_between
joined_by between w [] each = tt
joined_by between w (part ∷ parts) each = together part (flat_map (λ part. between ++ part) parts) each.0 (after_each between w parts each.1)

with_commas : (parts : List (List Leaf)) → AllByRecursion AreWritable parts → AreWritable (commas parts)
with_commas parts each = joined_by (sign symbols.Comma) (tt, tt) parts each

-- parts that can be written where they are of the grammar
given : {X : Type 0} (Is : X → Type 0) (leaves : X → List Leaf) (xs : List X) → AllByRecursion Is xs → AllByRecursion (λ x. Is x → AreWritable (leaves x)) xs → AllByRecursion (λ x. AreWritable (leaves x)) xs
given Is leaves [] is each = tt
given Is leaves (x ∷ xs) is each = (each.0 is.0, given Is leaves xs is.1 each.1)

of_all : {X : Type 0} (Is : X → Type 0) (leaves : X → List Leaf) → ((x : X) → Is x → AreWritable (leaves x)) → (xs : List X) → AllByRecursion Is xs → AllByRecursion (λ x. AreWritable (leaves x)) xs
of_all Is leaves each [] is = tt
of_all Is leaves each (x ∷ xs) is = (each x is.0, of_all Is leaves each xs is.1)

-- a layer of the grammar can be written where its parts can
of_layer : {F : Type 0} (text : F → List Leaf) (Here Are Write : F → Type 0) → ((d : F) → Here d → Are d → Write d → AreWritable (text d)) →
    {out held made d : F} → Here out → held ≡ out → Are held → made ≡ d → Write made → out ≡ d → {leaves : List Leaf} → leaves ≡ text d → AreWritable leaves
of_layer {F} text Here Are Write writes {out} {held} {made} {d} here held_is are same write out_is {leaves} leaves_are =
    subst AreWritable (sym leaves_are) (writes d (subst Here out_is here) (subst Are (held_is ∙ out_is) are) (subst Write same write))

-- a type
abbrev WritesType : TypeExpression → Type 0
WritesType t = IsType t → AreWritable (type_leaves t)

abbrev EachOfType : (TypeExpression → Type 0) → TypeExpression-F TypeExpression → Type 0
EachOfType Q (types.Bits width) = ⊤
EachOfType Q (types.Named n) = ⊤
EachOfType Q (types.Array place element size) = Q element

each_of_type : (Q : TypeExpression → Type 0) (y : TypeExpression-F (Such Q)) → EachOfType Q (map-TypeExpression (Such Q) TypeExpression (λ e. e.0) y)
each_of_type Q (types.Bits width) = tt
each_of_type Q (types.Named n) = tt
each_of_type Q (types.Array place element size) = element.1

type_writes : (d : TypeExpression-F TypeExpression) → IsTypeLayer d → EachOfType IsType d → EachOfType WritesType d → AreWritable (type_step (map-TypeExpression TypeExpression (List Leaf) type_leaves d))
type_writes (types.Bits width) here is writes = (tt, (here, tt))
type_writes (types.Named n) here is writes = (here, tt)
type_writes (types.Array place element size) here is writes =
    let before = type_leaves element ++ sign symbols.Semicolon in
    (tt, together (before ++ number_leaves size) (sign symbols.RightBracket) (together before (number_leaves size) (together (type_leaves element) (sign symbols.Semicolon) (writes is) (tt, tt)) (here, tt)) (tt, tt))

type_of_layer : (d : TypeExpression-F TypeExpression) (y : TypeExpression-F (Such WritesType)) → map-TypeExpression (Such WritesType) TypeExpression (λ e. e.0) y ≡ d → WritesType (roll-TypeExpression d)
unfolding IsType type_leaves
type_of_layer d y same is =
    let held = every_held-TypeExpression IsTypeLayer (roll-TypeExpression d) is in
    of_layer _ IsTypeLayer (EachOfType IsType) (EachOfType WritesType) type_writes (every_here-TypeExpression IsTypeLayer (roll-TypeExpression d) is) held.1 (each_of_type IsType held.0) same (each_of_type WritesType y)
    (out-roll-TypeExpression d) (fold-roll-TypeExpression (List Leaf) type_step d)

writable_type : (t : TypeExpression) → WritesType t
writable_type = ind-TypeExpression WritesType type_of_layer

abbrev WritesExpression : Expression → Type 0
WritesExpression t = IsExpression t → AreWritable (expression_leaves t)

abbrev WritesStatement : Statement → Type 0
WritesStatement t = IsStatement t → AreWritable (statement_leaves t)

abbrev WritesArm : Arm → Type 0
WritesArm t = IsArm t → AreWritable (arm_leaves t)

abbrev WritesBlock : Block → Type 0
WritesBlock t = IsBlock t → AreWritable (block_leaves t)

abbrev WritesFieldValue : FieldValue → Type 0
WritesFieldValue t = IsFieldValue t → AreWritable (field_value_leaves t)

abbrev WritesOperand : Operand → Type 0
WritesOperand t = IsOperand t → AreWritable (operand_leaves t)

abbrev ExpressionIs : Expression-F Expression Statement Arm Block FieldValue Operand → Type 0
ExpressionIs = EachOfExpression IsExpression IsStatement IsArm IsBlock IsFieldValue IsOperand

abbrev ExpressionWrites : Expression-F Expression Statement Arm Block FieldValue Operand → Type 0
ExpressionWrites = EachOfExpression WritesExpression WritesStatement WritesArm WritesBlock WritesFieldValue WritesOperand

suffix_writes : (s : Suffix) → IsSuffix s → AreWritable (suffix_leaves s)
suffix_writes (suffixes.Field n) is = (tt, (is, tt))
suffix_writes (suffixes.Index index) is = (tt, (is, (tt, tt)))
suffix_writes (suffixes.Slice high low) is = (tt, (is.0, (tt, (is.1, (tt, tt)))))

part_writes : (part : UpdatedPart) → IsPart part → AreWritable (part_leaves part)
part_writes (parts.Field n) is = (is, tt)
part_writes (parts.Index index) is = (is, tt)

prefixes_write : (ps : List Prefix) → AreWritable (flat_map prefix_leaves ps)
prefixes_write [] = tt
prefixes_write (p ∷ ps) = (tt, prefixes_write ps)

-- arguments in their brackets
call_writes : (arguments : List (List Leaf)) → AllByRecursion AreWritable arguments → AreWritable (in_parentheses (commas arguments))
call_writes arguments each = (tt, together (commas arguments) (sign symbols.RightParenthesis) (with_commas arguments each) (tt, tt))

abbrev expression_layer_leaves : Expression-F Expression Statement Arm Block FieldValue Operand → List Leaf
expression_layer_leaves d = expression_step (map-Expression Expression Statement Arm Block FieldValue Operand (List Leaf) (List Leaf) (List Leaf) (List Leaf) (List Leaf) (List Leaf) expression_leaves statement_leaves arm_leaves block_leaves field_value_leaves operand_leaves d)

if_writes : (arms : List Arm) → AllByRecursion (λ a. AreWritable (arm_leaves a)) arms → (last : List Leaf) → AreWritable last → AreWritable (with_between (word keywords.Else) (map arm_leaves arms) ++ last)
if_writes arms each last w = together (with_between (word keywords.Else) (map arm_leaves arms)) last (joined_by (word keywords.Else) (tt, tt) (map arm_leaves arms) (mapped arm_leaves arms each)) w

expression_writes : (d : Expression-F Expression Statement Arm Block FieldValue Operand) → IsExpressionLayer d → ExpressionIs d → ExpressionWrites d → AreWritable (expression_layer_leaves d)
expression_writes (expression.If arms None) here is writes = if_writes arms (given IsArm arm_leaves arms is.0 writes.0) [] tt
expression_writes (expression.If arms (Some b)) here is writes = if_writes arms (given IsArm arm_leaves arms is.0 writes.0) (word keywords.Else ++ block_leaves b) (tt, writes.1 is.1)
expression_writes (expression.Chain first rest) here is writes =
    together (expression_leaves first) (all_of (map operand_leaves rest)) (writes.0 is.0) (all_together (λ part. part) (map operand_leaves rest) (mapped operand_leaves rest (given IsOperand operand_leaves rest is.1 writes.1)))
expression_writes (expression.Unary prefixes operand) here is writes = together (flat_map prefix_leaves prefixes) (expression_leaves operand) (prefixes_write prefixes) (writes is)
expression_writes (expression.Postfix primary suffixes) here is writes =
    together (expression_leaves primary) (flat_map suffix_leaves suffixes) (writes is) (all_together suffix_leaves suffixes (of_all IsSuffix suffix_leaves suffix_writes suffixes (recursion_from_All IsSuffix suffixes here.2)))
expression_writes (expression.Literal l) here is writes = (here, tt)
expression_writes (expression.Name n) here is writes = (here, tt)
expression_writes (expression.Call called arguments) here is writes = (here, call_writes (map expression_leaves arguments) (mapped expression_leaves arguments (given IsExpression expression_leaves arguments is writes)))
expression_writes (expression.Member of member) here is writes = (here.0, (tt, (here.1, tt)))
expression_writes (expression.Struct of fields close) here is writes =
    (here.0, (tt, (tt, together (commas (map field_value_leaves fields)) (placed (symbol symbols.RightBrace) close) (with_commas (map field_value_leaves fields) (mapped field_value_leaves fields (given IsFieldValue field_value_leaves fields is writes))) (tt, tt))))
expression_writes (expression.Array place elements) here is writes =
    (tt, together (commas (map expression_leaves elements)) (sign symbols.RightBracket) (with_commas (map expression_leaves elements) (mapped expression_leaves elements (given IsExpression expression_leaves elements is writes))) (tt, tt))
expression_writes (expression.Parentheses place inside) here is writes = (tt, together (expression_leaves inside) (sign symbols.RightParenthesis) (writes is) (tt, tt))
expression_writes (expression.Block block) here is writes = writes is
expression_writes (expression.Read place port register) here is writes = (tt, call_writes (name_leaves register ∷ []) ((here.1, tt), tt))
expression_writes (expression.Write place port register value) here is writes = (tt, call_writes (name_leaves register ∷ expression_leaves value ∷ []) ((here.1, tt), (writes is, tt)))
expression_writes (expression.Abort place) here is writes = (tt, tt)
expression_writes (expression.Pack place value) here is writes = (tt, call_writes (expression_leaves value ∷ []) (writes is, tt))
expression_writes (expression.Unpack place to value) here is writes = (tt, call_writes (type_leaves to ∷ expression_leaves value ∷ []) (writable_type to here, (writes is, tt)))
expression_writes (expression.Extend place extension value width) here is writes = (tt, call_writes (expression_leaves value ∷ number_leaves width ∷ []) (writes is, ((here, tt), tt)))
expression_writes (expression.Compare place comparison left right) here is writes = (tt, call_writes (expression_leaves left ∷ expression_leaves right ∷ []) (writes.0 is.0, (writes.1 is.1, tt)))
expression_writes (expression.Update place whole part value) here is writes = (tt, call_writes (expression_leaves whole ∷ part_leaves part ∷ expression_leaves value ∷ []) (writes.0 is.0, (part_writes part here, (writes.1 is.1, tt))))

abbrev statement_layer_leaves : Statement-F Expression Statement Arm Block FieldValue Operand → List Leaf
statement_layer_leaves d = statement_step (map-Statement Expression Statement Arm Block FieldValue Operand (List Leaf) (List Leaf) (List Leaf) (List Leaf) (List Leaf) (List Leaf) expression_leaves statement_leaves arm_leaves block_leaves field_value_leaves operand_leaves d)

abbrev arm_layer_leaves : Arm-F Expression Statement Arm Block FieldValue Operand → List Leaf
arm_layer_leaves d = arm_step (map-Arm Expression Statement Arm Block FieldValue Operand (List Leaf) (List Leaf) (List Leaf) (List Leaf) (List Leaf) (List Leaf) expression_leaves statement_leaves arm_leaves block_leaves field_value_leaves operand_leaves d)

abbrev block_layer_leaves : Block-F Expression Statement Arm Block FieldValue Operand → List Leaf
block_layer_leaves d = block_step (map-Block Expression Statement Arm Block FieldValue Operand (List Leaf) (List Leaf) (List Leaf) (List Leaf) (List Leaf) (List Leaf) expression_leaves statement_leaves arm_leaves block_leaves field_value_leaves operand_leaves d)

abbrev field_value_layer_leaves : FieldValue-F Expression Statement Arm Block FieldValue Operand → List Leaf
field_value_layer_leaves d = field_value_step (map-FieldValue Expression Statement Arm Block FieldValue Operand (List Leaf) (List Leaf) (List Leaf) (List Leaf) (List Leaf) (List Leaf) expression_leaves statement_leaves arm_leaves block_leaves field_value_leaves operand_leaves d)

abbrev operand_layer_leaves : Operand-F Expression Statement Arm Block FieldValue Operand → List Leaf
operand_layer_leaves d = operand_step (map-Operand Expression Statement Arm Block FieldValue Operand (List Leaf) (List Leaf) (List Leaf) (List Leaf) (List Leaf) (List Leaf) expression_leaves statement_leaves arm_leaves block_leaves field_value_leaves operand_leaves d)

statement_writes : (d : Statement-F Expression Statement Arm Block FieldValue Operand) → IsStatementLayer d → EachOfStatement IsExpression IsStatement IsArm IsBlock IsFieldValue IsOperand d → EachOfStatement WritesExpression WritesStatement WritesArm WritesBlock WritesFieldValue WritesOperand d → AreWritable (statement_layer_leaves d)
statement_writes (expression.Let n value) here is writes = (tt, (here, (tt, together (expression_leaves value) (sign symbols.Semicolon) (writes is) (tt, tt))))
statement_writes (expression.Do value) here is writes = together (expression_leaves value) (sign symbols.Semicolon) (writes is) (tt, tt)

arm_writes : (d : Arm-F Expression Statement Arm Block FieldValue Operand) → IsArmLayer d → EachOfArm IsExpression IsStatement IsArm IsBlock IsFieldValue IsOperand d → EachOfArm WritesExpression WritesStatement WritesArm WritesBlock WritesFieldValue WritesOperand d → AreWritable (arm_layer_leaves d)
arm_writes d here is writes = (tt, together (expression_leaves d.condition) (block_leaves d.body) (writes.0 is.0) (writes.1 is.1))

field_value_writes : (d : FieldValue-F Expression Statement Arm Block FieldValue Operand) → IsFieldValueLayer d → EachOfFieldValue IsExpression IsStatement IsArm IsBlock IsFieldValue IsOperand d → EachOfFieldValue WritesExpression WritesStatement WritesArm WritesBlock WritesFieldValue WritesOperand d → AreWritable (field_value_layer_leaves d)
field_value_writes d here is writes = (here, (tt, writes is))

operand_writes : (d : Operand-F Expression Statement Arm Block FieldValue Operand) → IsOperandLayer d → EachOfOperand IsExpression IsStatement IsArm IsBlock IsFieldValue IsOperand d → EachOfOperand WritesExpression WritesStatement WritesArm WritesBlock WritesFieldValue WritesOperand d → AreWritable (operand_layer_leaves d)
operand_writes d here is writes = (tt, writes is)

block_writes : (d : Block-F Expression Statement Arm Block FieldValue Operand) → IsBlockLayer d → EachOfBlock IsExpression IsStatement IsArm IsBlock IsFieldValue IsOperand d → EachOfBlock WritesExpression WritesStatement WritesArm WritesBlock WritesFieldValue WritesOperand d → AreWritable (block_layer_leaves d)
block_writes d here is writes = of_parts d.place d.statements d.value is writes
  where
    of_parts : (place : ℕ) (statements : List Statement) (value : Option Expression) → EachOfBlock IsExpression IsStatement IsArm IsBlock IsFieldValue IsOperand (record { place = place; statements = statements; value = value }) → EachOfBlock WritesExpression WritesStatement WritesArm WritesBlock WritesFieldValue WritesOperand (record { place = place; statements = statements; value = value }) →
        AreWritable (block_layer_leaves (record { place = place; statements = statements; value = value }))
    of_parts place statements None is writes =
        let all = all_of (map statement_leaves statements) in
        (tt, together (all ++ []) (sign symbols.RightBrace) (together all [] (all_together (λ part. part) (map statement_leaves statements) (mapped statement_leaves statements (given IsStatement statement_leaves statements is.0 writes.0))) tt) (tt, tt))
    of_parts place statements (Some b) is writes =
        let all = all_of (map statement_leaves statements) in
        (tt, together (all ++ expression_leaves b) (sign symbols.RightBrace) (together all (expression_leaves b) (all_together (λ part. part) (map statement_leaves statements) (mapped statement_leaves statements (given IsStatement statement_leaves statements is.0 writes.0))) (writes.1 is.1)) (tt, tt))

expression_of_layer : (d : Expression-F Expression Statement Arm Block FieldValue Operand) (y : Expression-F (Such WritesExpression) (Such WritesStatement) (Such WritesArm) (Such WritesBlock) (Such WritesFieldValue) (Such WritesOperand)) → map-Expression (Such WritesExpression) (Such WritesStatement) (Such WritesArm) (Such WritesBlock) (Such WritesFieldValue) (Such WritesOperand) Expression Statement Arm Block FieldValue Operand (λ e. e.0) (λ e. e.0) (λ e. e.0) (λ e. e.0) (λ e. e.0) (λ e. e.0) y ≡ d → WritesExpression (roll-Expression d)
unfolding IsExpression IsBlock expression_leaves statement_leaves arm_leaves block_leaves field_value_leaves operand_leaves
expression_of_layer d y same is =
    let held = every_held-Expression IsExpressionLayer IsStatementLayer IsArmLayer IsBlockLayer IsFieldValueLayer IsOperandLayer (roll-Expression d) is in
    of_layer expression_layer_leaves IsExpressionLayer (EachOfExpression IsExpression IsStatement IsArm IsBlock IsFieldValue IsOperand) (EachOfExpression WritesExpression WritesStatement WritesArm WritesBlock WritesFieldValue WritesOperand) expression_writes (every_here-Expression IsExpressionLayer IsStatementLayer IsArmLayer IsBlockLayer IsFieldValueLayer IsOperandLayer (roll-Expression d) is) held.1 (each_of_expression IsExpression IsStatement IsArm IsBlock IsFieldValue IsOperand held.0) same (each_of_expression WritesExpression WritesStatement WritesArm WritesBlock WritesFieldValue WritesOperand y)
    (out-roll-Expression d) (fold-roll-Expression (List Leaf) (List Leaf) (List Leaf) (List Leaf) (List Leaf) (List Leaf) expression_step statement_step arm_step block_step field_value_step operand_step d)

statement_of_layer : (d : Statement-F Expression Statement Arm Block FieldValue Operand) (y : Statement-F (Such WritesExpression) (Such WritesStatement) (Such WritesArm) (Such WritesBlock) (Such WritesFieldValue) (Such WritesOperand)) → map-Statement (Such WritesExpression) (Such WritesStatement) (Such WritesArm) (Such WritesBlock) (Such WritesFieldValue) (Such WritesOperand) Expression Statement Arm Block FieldValue Operand (λ e. e.0) (λ e. e.0) (λ e. e.0) (λ e. e.0) (λ e. e.0) (λ e. e.0) y ≡ d → WritesStatement (roll-Statement d)
unfolding IsExpression IsBlock expression_leaves statement_leaves arm_leaves block_leaves field_value_leaves operand_leaves
statement_of_layer d y same is =
    let held = every_held-Statement IsExpressionLayer IsStatementLayer IsArmLayer IsBlockLayer IsFieldValueLayer IsOperandLayer (roll-Statement d) is in
    of_layer statement_layer_leaves IsStatementLayer (EachOfStatement IsExpression IsStatement IsArm IsBlock IsFieldValue IsOperand) (EachOfStatement WritesExpression WritesStatement WritesArm WritesBlock WritesFieldValue WritesOperand) statement_writes (every_here-Statement IsExpressionLayer IsStatementLayer IsArmLayer IsBlockLayer IsFieldValueLayer IsOperandLayer (roll-Statement d) is) held.1 (each_of_statement IsExpression IsStatement IsArm IsBlock IsFieldValue IsOperand held.0) same (each_of_statement WritesExpression WritesStatement WritesArm WritesBlock WritesFieldValue WritesOperand y)
    (out-roll-Statement d) (fold-roll-Statement (List Leaf) (List Leaf) (List Leaf) (List Leaf) (List Leaf) (List Leaf) expression_step statement_step arm_step block_step field_value_step operand_step d)

arm_of_layer : (d : Arm-F Expression Statement Arm Block FieldValue Operand) (y : Arm-F (Such WritesExpression) (Such WritesStatement) (Such WritesArm) (Such WritesBlock) (Such WritesFieldValue) (Such WritesOperand)) → map-Arm (Such WritesExpression) (Such WritesStatement) (Such WritesArm) (Such WritesBlock) (Such WritesFieldValue) (Such WritesOperand) Expression Statement Arm Block FieldValue Operand (λ e. e.0) (λ e. e.0) (λ e. e.0) (λ e. e.0) (λ e. e.0) (λ e. e.0) y ≡ d → WritesArm (roll-Arm d)
unfolding IsExpression IsBlock expression_leaves statement_leaves arm_leaves block_leaves field_value_leaves operand_leaves
arm_of_layer d y same is =
    let held = every_held-Arm IsExpressionLayer IsStatementLayer IsArmLayer IsBlockLayer IsFieldValueLayer IsOperandLayer (roll-Arm d) is in
    of_layer arm_layer_leaves IsArmLayer (EachOfArm IsExpression IsStatement IsArm IsBlock IsFieldValue IsOperand) (EachOfArm WritesExpression WritesStatement WritesArm WritesBlock WritesFieldValue WritesOperand) arm_writes (every_here-Arm IsExpressionLayer IsStatementLayer IsArmLayer IsBlockLayer IsFieldValueLayer IsOperandLayer (roll-Arm d) is) held.1 (each_of_arm IsExpression IsStatement IsArm IsBlock IsFieldValue IsOperand held.0) same (each_of_arm WritesExpression WritesStatement WritesArm WritesBlock WritesFieldValue WritesOperand y)
    (out-roll-Arm d) (fold-roll-Arm (List Leaf) (List Leaf) (List Leaf) (List Leaf) (List Leaf) (List Leaf) expression_step statement_step arm_step block_step field_value_step operand_step d)

block_of_layer : (d : Block-F Expression Statement Arm Block FieldValue Operand) (y : Block-F (Such WritesExpression) (Such WritesStatement) (Such WritesArm) (Such WritesBlock) (Such WritesFieldValue) (Such WritesOperand)) → map-Block (Such WritesExpression) (Such WritesStatement) (Such WritesArm) (Such WritesBlock) (Such WritesFieldValue) (Such WritesOperand) Expression Statement Arm Block FieldValue Operand (λ e. e.0) (λ e. e.0) (λ e. e.0) (λ e. e.0) (λ e. e.0) (λ e. e.0) y ≡ d → WritesBlock (roll-Block d)
unfolding IsExpression IsBlock expression_leaves statement_leaves arm_leaves block_leaves field_value_leaves operand_leaves
block_of_layer d y same is =
    let held = every_held-Block IsExpressionLayer IsStatementLayer IsArmLayer IsBlockLayer IsFieldValueLayer IsOperandLayer (roll-Block d) is in
    of_layer block_layer_leaves IsBlockLayer (EachOfBlock IsExpression IsStatement IsArm IsBlock IsFieldValue IsOperand) (EachOfBlock WritesExpression WritesStatement WritesArm WritesBlock WritesFieldValue WritesOperand) block_writes (every_here-Block IsExpressionLayer IsStatementLayer IsArmLayer IsBlockLayer IsFieldValueLayer IsOperandLayer (roll-Block d) is) held.1 (each_of_block IsExpression IsStatement IsArm IsBlock IsFieldValue IsOperand held.0) same (each_of_block WritesExpression WritesStatement WritesArm WritesBlock WritesFieldValue WritesOperand y)
    (out-roll-Block d) (fold-roll-Block (List Leaf) (List Leaf) (List Leaf) (List Leaf) (List Leaf) (List Leaf) expression_step statement_step arm_step block_step field_value_step operand_step d)

field_value_of_layer : (d : FieldValue-F Expression Statement Arm Block FieldValue Operand) (y : FieldValue-F (Such WritesExpression) (Such WritesStatement) (Such WritesArm) (Such WritesBlock) (Such WritesFieldValue) (Such WritesOperand)) → map-FieldValue (Such WritesExpression) (Such WritesStatement) (Such WritesArm) (Such WritesBlock) (Such WritesFieldValue) (Such WritesOperand) Expression Statement Arm Block FieldValue Operand (λ e. e.0) (λ e. e.0) (λ e. e.0) (λ e. e.0) (λ e. e.0) (λ e. e.0) y ≡ d → WritesFieldValue (roll-FieldValue d)
unfolding IsExpression IsBlock expression_leaves statement_leaves arm_leaves block_leaves field_value_leaves operand_leaves
field_value_of_layer d y same is =
    let held = every_held-FieldValue IsExpressionLayer IsStatementLayer IsArmLayer IsBlockLayer IsFieldValueLayer IsOperandLayer (roll-FieldValue d) is in
    of_layer field_value_layer_leaves IsFieldValueLayer (EachOfFieldValue IsExpression IsStatement IsArm IsBlock IsFieldValue IsOperand) (EachOfFieldValue WritesExpression WritesStatement WritesArm WritesBlock WritesFieldValue WritesOperand) field_value_writes (every_here-FieldValue IsExpressionLayer IsStatementLayer IsArmLayer IsBlockLayer IsFieldValueLayer IsOperandLayer (roll-FieldValue d) is) held.1 (each_of_field_value IsExpression IsStatement IsArm IsBlock IsFieldValue IsOperand held.0) same (each_of_field_value WritesExpression WritesStatement WritesArm WritesBlock WritesFieldValue WritesOperand y)
    (out-roll-FieldValue d) (fold-roll-FieldValue (List Leaf) (List Leaf) (List Leaf) (List Leaf) (List Leaf) (List Leaf) expression_step statement_step arm_step block_step field_value_step operand_step d)

operand_of_layer : (d : Operand-F Expression Statement Arm Block FieldValue Operand) (y : Operand-F (Such WritesExpression) (Such WritesStatement) (Such WritesArm) (Such WritesBlock) (Such WritesFieldValue) (Such WritesOperand)) → map-Operand (Such WritesExpression) (Such WritesStatement) (Such WritesArm) (Such WritesBlock) (Such WritesFieldValue) (Such WritesOperand) Expression Statement Arm Block FieldValue Operand (λ e. e.0) (λ e. e.0) (λ e. e.0) (λ e. e.0) (λ e. e.0) (λ e. e.0) y ≡ d → WritesOperand (roll-Operand d)
unfolding IsExpression IsBlock expression_leaves statement_leaves arm_leaves block_leaves field_value_leaves operand_leaves
operand_of_layer d y same is =
    let held = every_held-Operand IsExpressionLayer IsStatementLayer IsArmLayer IsBlockLayer IsFieldValueLayer IsOperandLayer (roll-Operand d) is in
    of_layer operand_layer_leaves IsOperandLayer (EachOfOperand IsExpression IsStatement IsArm IsBlock IsFieldValue IsOperand) (EachOfOperand WritesExpression WritesStatement WritesArm WritesBlock WritesFieldValue WritesOperand) operand_writes (every_here-Operand IsExpressionLayer IsStatementLayer IsArmLayer IsBlockLayer IsFieldValueLayer IsOperandLayer (roll-Operand d) is) held.1 (each_of_operand IsExpression IsStatement IsArm IsBlock IsFieldValue IsOperand held.0) same (each_of_operand WritesExpression WritesStatement WritesArm WritesBlock WritesFieldValue WritesOperand y)
    (out-roll-Operand d) (fold-roll-Operand (List Leaf) (List Leaf) (List Leaf) (List Leaf) (List Leaf) (List Leaf) expression_step statement_step arm_step block_step field_value_step operand_step d)

writable_expression : (t : Expression) → WritesExpression t
writable_expression = ind-Expression WritesExpression WritesStatement WritesArm WritesBlock WritesFieldValue WritesOperand expression_of_layer statement_of_layer arm_of_layer block_of_layer field_value_of_layer operand_of_layer

writable_block : (t : Block) → WritesBlock t
writable_block = ind-Block WritesExpression WritesStatement WritesArm WritesBlock WritesFieldValue WritesOperand expression_of_layer statement_of_layer arm_of_layer block_of_layer field_value_of_layer operand_of_layer

-- constants
abbrev WritesConstant : Constant → Type 0
WritesConstant t = IsConstant t → AreWritable (constant_leaves t)

abbrev WritesConstantField : ConstantField → Type 0
WritesConstantField t = IsConstantField t → AreWritable (constant_field_leaves t)

constant_writes : (d : Constant-F Constant ConstantField) → IsConstantLayer d → EachOfConstant IsConstant IsConstantField d → EachOfConstant WritesConstant WritesConstantField d →
    AreWritable (constant_step (map-Constant Constant ConstantField (List Leaf) (List Leaf) constant_leaves constant_field_leaves d))
constant_writes (constant.Literal l) here is writes = (here, tt)
constant_writes (constant.Member of member) here is writes = (here.0, (tt, (here.1, tt)))
constant_writes (constant.Struct of fields close) here is writes =
    (here.0, (tt, (tt, together (commas (map constant_field_leaves fields)) (placed (symbol symbols.RightBrace) close) (with_commas (map constant_field_leaves fields) (mapped constant_field_leaves fields (given IsConstantField constant_field_leaves fields is writes))) (tt, tt))))
constant_writes (constant.Array place elements) here is writes =
    (tt, together (commas (map constant_leaves elements)) (sign symbols.RightBracket) (with_commas (map constant_leaves elements) (mapped constant_leaves elements (given IsConstant constant_leaves elements is writes))) (tt, tt))

constant_of_layer : (d : Constant-F Constant ConstantField) (y : Constant-F (Such WritesConstant) (Such WritesConstantField)) → map-Constant (Such WritesConstant) (Such WritesConstantField) Constant ConstantField (λ e. e.0) (λ e. e.0) y ≡ d → WritesConstant (roll-Constant d)
unfolding IsConstant constant_leaves constant_field_leaves
constant_of_layer d y same is =
    let held = every_held-Constant IsConstantLayer IsConstantFieldLayer (roll-Constant d) is in
    of_layer _ IsConstantLayer (EachOfConstant IsConstant IsConstantField) (EachOfConstant WritesConstant WritesConstantField) constant_writes (every_here-Constant IsConstantLayer IsConstantFieldLayer (roll-Constant d) is) held.1 (each_of_constant IsConstant IsConstantField held.0) same (each_of_constant WritesConstant WritesConstantField y)
    (out-roll-Constant d) (fold-roll-Constant (List Leaf) (List Leaf) constant_step constant_field_step d)

constant_field_of_layer : (d : ConstantField-F Constant ConstantField) (y : ConstantField-F (Such WritesConstant) (Such WritesConstantField)) → map-ConstantField (Such WritesConstant) (Such WritesConstantField) Constant ConstantField (λ e. e.0) (λ e. e.0) y ≡ d → WritesConstantField (roll-ConstantField d)
unfolding IsConstant constant_leaves constant_field_leaves
constant_field_of_layer d y same is =
    let held = every_held-ConstantField IsConstantLayer IsConstantFieldLayer (roll-ConstantField d) is in
    let here = subst IsConstantFieldLayer (out-roll-ConstantField d) (every_here-ConstantField IsConstantLayer IsConstantFieldLayer (roll-ConstantField d) is) in
    let value_is = subst (λ (d : ConstantField-F Constant ConstantField). IsConstant d.value) (held.1 ∙ out-roll-ConstantField d) held.0.value.1 in
    let value_writes = subst (λ (d : ConstantField-F Constant ConstantField). WritesConstant d.value) same y.value.1 in
    subst AreWritable (sym (fold-roll-ConstantField (List Leaf) (List Leaf) constant_step constant_field_step d)) (here, (tt, value_writes value_is))

writable_constant : (t : Constant) → WritesConstant t
writable_constant = ind-Constant WritesConstant WritesConstantField constant_of_layer constant_field_of_layer

-- schedulers
abbrev IsChoice : Choice → Type 0
IsChoice = every-Choice IsChoiceLayer IsSchedulerLayer

abbrev WritesChoice : Choice → Type 0
WritesChoice t = IsChoice t → AreWritable (choice_leaves t)

abbrev WritesScheduler : Scheduler → Type 0
WritesScheduler t = IsScheduler t → AreWritable (scheduler_leaves t)

module _ (Q : Choice → Type 0) (QScheduler : Scheduler → Type 0) where
  abbrev EachOfScheduler : Scheduler-F Choice Scheduler → Type 0
  EachOfScheduler d = IfSome d.last Q

  each_of_scheduler : (y : Scheduler-F (Such Q) (Such QScheduler)) → EachOfScheduler (map-Scheduler (Such Q) (Such QScheduler) Choice Scheduler (λ e. e.0) (λ e. e.0) y)
  each_of_scheduler y = of_parts y.rules y.last
    where
      of_parts : (rules : List Name) (last : Option (Such Q)) → EachOfScheduler (map-Scheduler (Such Q) (Such QScheduler) Choice Scheduler (λ e. e.0) (λ e. e.0) (record { rules = rules; last = last }))
      of_parts rules None = tt
      of_parts rules (Some b) = b.1

rules_write : (rules : List Name) → All IsName rules → AreWritable (flat_map rule_leaves rules)
rules_write rules are = all_together rule_leaves rules (of_all IsName rule_leaves (λ n is. (is, (tt, tt))) rules (recursion_from_All IsName rules are))

scheduler_writes : (d : Scheduler-F Choice Scheduler) → IsSchedulerLayer d → EachOfScheduler IsChoice IsScheduler d → EachOfScheduler WritesChoice WritesScheduler d →
    AreWritable (scheduler_step (map-Scheduler Choice Scheduler (List Leaf) (List Leaf) choice_leaves scheduler_leaves d))
scheduler_writes d here is writes = of_parts d.rules d.last here is writes
  where
    of_parts : (rules : List Name) (last : Option Choice) → All IsName rules → IfSome last IsChoice → IfSome last WritesChoice →
        AreWritable (scheduler_step (map-Scheduler Choice Scheduler (List Leaf) (List Leaf) choice_leaves scheduler_leaves (record { rules = rules; last = last })))
    of_parts rules None here is writes = together (flat_map rule_leaves rules) [] (rules_write rules here) tt
    of_parts rules (Some b) here is writes = together (flat_map rule_leaves rules) (choice_leaves b) (rules_write rules here) (writes is)

scheduler_of_layer : (d : Scheduler-F Choice Scheduler) (y : Scheduler-F (Such WritesChoice) (Such WritesScheduler)) → map-Scheduler (Such WritesChoice) (Such WritesScheduler) Choice Scheduler (λ e. e.0) (λ e. e.0) y ≡ d → WritesScheduler (roll-Scheduler d)
unfolding IsScheduler choice_leaves scheduler_leaves
scheduler_of_layer d y same is =
    let held = every_held-Scheduler IsChoiceLayer IsSchedulerLayer (roll-Scheduler d) is in
    of_layer _ IsSchedulerLayer (EachOfScheduler IsChoice IsScheduler) (EachOfScheduler WritesChoice WritesScheduler) scheduler_writes (every_here-Scheduler IsChoiceLayer IsSchedulerLayer (roll-Scheduler d) is) held.1 (each_of_scheduler IsChoice IsScheduler held.0) same (each_of_scheduler WritesChoice WritesScheduler y)
    (out-roll-Scheduler d) (fold-roll-Scheduler (List Leaf) (List Leaf) choice_step scheduler_step d)

in_braces_writes : (inside : List Leaf) → AreWritable inside → AreWritable (in_braces inside)
in_braces_writes inside w = (tt, together inside (sign symbols.RightBrace) w (tt, tt))

choice_of_layer : (d : Choice-F Choice Scheduler) (y : Choice-F (Such WritesChoice) (Such WritesScheduler)) → map-Choice (Such WritesChoice) (Such WritesScheduler) Choice Scheduler (λ e. e.0) (λ e. e.0) y ≡ d → WritesChoice (roll-Choice d)
unfolding IsScheduler choice_leaves scheduler_leaves
choice_of_layer d y same is =
    let held = every_held-Choice IsChoiceLayer IsSchedulerLayer (roll-Choice d) is in
    let here = subst IsChoiceLayer (out-roll-Choice d) (every_here-Choice IsChoiceLayer IsSchedulerLayer (roll-Choice d) is) in
    let then_is = subst (λ (d : Choice-F Choice Scheduler). IsScheduler d.then) (held.1 ∙ out-roll-Choice d) held.0.then.1 in
    let otherwise_is = subst (λ (d : Choice-F Choice Scheduler). IsScheduler d.otherwise) (held.1 ∙ out-roll-Choice d) held.0.otherwise.1 in
    let then_writes = subst (λ (d : Choice-F Choice Scheduler). WritesScheduler d.then) same y.then.1 in
    let otherwise_writes = subst (λ (d : Choice-F Choice Scheduler). WritesScheduler d.otherwise) same y.otherwise.1 in
    let first = scheduler_leaves d.then ++ sign symbols.RightBrace in
    let second = in_braces (scheduler_leaves d.otherwise) in
    subst AreWritable (sym (fold-roll-Choice (List Leaf) (List Leaf) choice_step scheduler_step d)) (
      tt,
      (
        here,
        (
          tt,
          (
            tt,
            together (first ++ word keywords.Else) second
                (together first (word keywords.Else) (together (scheduler_leaves d.then) (sign symbols.RightBrace) (then_writes then_is) (tt, tt)) (tt, tt)) (in_braces_writes (scheduler_leaves d.otherwise) (otherwise_writes otherwise_is)),
          ),
        ),
      ),
    )

writable_scheduler : (t : Scheduler) → WritesScheduler t
writable_scheduler = ind-Scheduler WritesChoice WritesScheduler choice_of_layer scheduler_of_layer

-- declarations
members_write : (members : List EnumMember) → All IsMember members → AllByRecursion (λ m. AreWritable (member_leaves m)) members
members_write members are = of_all IsMember member_leaves (λ m is. (is.0, (tt, (is.1, tt)))) members (recursion_from_All IsMember members are)

fields_write : (fields : List Field) → All IsField fields → AllByRecursion (λ f. AreWritable (field_leaves f)) fields
fields_write fields are = of_all IsField field_leaves (λ f is. (is.0, (tt, writable_type f.of is.1))) fields (recursion_from_All IsField fields are)

entries_write : (entries : List Literal) → All LiteralFits entries → AllByRecursion (λ l. AreWritable (literal_leaves l)) entries
entries_write entries are = of_all LiteralFits literal_leaves (λ l is. (is, tt)) entries (recursion_from_All LiteralFits entries are)

result_writes : (result : Option TypeExpression) → IfSome result IsType → AreWritable (result_leaves result)
result_writes None is = (tt, tt)
result_writes (Some of) is = writable_type of is

listed_writes : {X : Type 0} (leaves : X → List Leaf) (xs : List X) → AllByRecursion (λ x. AreWritable (leaves x)) xs → AreWritable (commas (map leaves xs))
listed_writes leaves xs each = with_commas (map leaves xs) (mapped leaves xs each)

declaration_writes : (d : Declaration) → IsDeclaration d → AreWritable (declaration_leaves d)
declaration_writes (declarations.Enum n width members) is = (tt, (is.0, (tt, (tt, (is.1, in_braces_writes (commas (map member_leaves members)) (listed_writes member_leaves members (members_write members is.3)))))))
declaration_writes (declarations.Struct n fields) is = (tt, (is.0, in_braces_writes (commas (map field_leaves fields)) (listed_writes field_leaves fields (fields_write fields is.2))))
declaration_writes (declarations.Register n of first) is =
    let typed = type_leaves of ++ sign symbols.Equals in
    (tt, (is.0, (tt, together (typed ++ constant_leaves first) (sign symbols.Semicolon) (together typed (constant_leaves first) (together (type_leaves of) (sign symbols.Equals) (writable_type of is.1) (tt, tt)) (writable_constant first is.2)) (tt, tt))))
declaration_writes (declarations.Input n of) is = (tt, (is.0, (tt, together (type_leaves of) (sign symbols.Semicolon) (writable_type of is.1) (tt, tt))))
declaration_writes (declarations.Table n input output entries) is =
    (tt, (is.0, (tt, (tt, (is.1, (tt, (tt, (is.2, in_braces_writes (commas (map literal_leaves entries)) (listed_writes literal_leaves entries (entries_write entries is.4))))))))))
declaration_writes (declarations.Host n input output) is = (tt, (is.0, (tt, (tt, (is.1, (tt, (tt, (is.2, (tt, tt)))))))))
declaration_writes (declarations.Function n parameters result body) is =
    let closed = commas (map field_leaves parameters) ++ sign symbols.RightParenthesis in (
      tt,
      (
        is.0,
        (
          tt,
          together ((closed ++ sign symbols.Colon) ++ result_leaves result) (block_leaves body)
              (together (closed ++ sign symbols.Colon) (result_leaves result)
              (together closed (sign symbols.Colon) (together (commas (map field_leaves parameters)) (sign symbols.RightParenthesis) (listed_writes field_leaves parameters (fields_write parameters is.1)) (tt, tt)) (tt, tt))
              (result_writes result is.2))
              (writable_block body is.3),
        ),
      ),
    )
declaration_writes (declarations.Rule n body) is = (tt, (is.0, writable_block body is.1))
declaration_writes (declarations.Assert n) is = (tt, (is, (tt, tt)))

-- a tree of the grammar
pub writable : (tree : Tree) → IsDesign tree → AreWritable (tree_leaves tree)
writable tree is =
    let all = flat_map declaration_leaves tree.declarations in
    together (all ++ placed (keyword keywords.Schedule) tree.schedule) (in_braces (scheduler_leaves tree.scheduler))
    (together all (placed (keyword keywords.Schedule) tree.schedule)
    (all_together declaration_leaves tree.declarations (of_all IsDeclaration declaration_leaves declaration_writes tree.declarations (recursion_from_All IsDeclaration tree.declarations is.declarations))) (tt, tt))
    (in_braces_writes (scheduler_leaves tree.scheduler) (writable_scheduler tree.scheduler is.scheduler))
