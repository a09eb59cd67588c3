-- A tree whose places stay is itself.
use Rattle.std.proofs.Common.{◌≡◌, ℕ, Option, Some, None, List, [], ◌∷◌, map, refl, ap, ap₂, subst, ◌∙◌}
use Rattle.koika_syntax.specs.declared.tree.Arm.{Arm, Arm-F, map-Arm, roll-Arm, out-roll-Arm}
use Rattle.koika_syntax.specs.declared.tree.Block.{Block, Block-F, map-Block, roll-Block, out-roll-Block, ind-Block}
use Rattle.koika_syntax.specs.declared.tree.Choice.{Choice, Choice-F, map-Choice, roll-Choice, out-roll-Choice}
use Rattle.koika_syntax.specs.declared.tree.Constant.{Constant, Constant-F, map-Constant, roll-Constant, out-roll-Constant, ind-Constant}
use Rattle.koika_syntax.specs.declared.tree.Constant.TheOpen as constant
use Rattle.koika_syntax.specs.declared.tree.ConstantField.{ConstantField, ConstantField-F, map-ConstantField, roll-ConstantField, out-roll-ConstantField}
use Rattle.koika_syntax.specs.declared.tree.Declaration.{Declaration}
use Rattle.koika_syntax.specs.declared.tree.Declaration.TheVariants as declarations
use Rattle.koika_syntax.specs.declared.tree.Expression.{Expression, Expression-F, map-Expression, roll-Expression, out-roll-Expression}
use Rattle.koika_syntax.specs.declared.tree.Expression.TheOpen as expression
use Rattle.koika_syntax.specs.declared.tree.Field.{Field}
use Rattle.koika_syntax.specs.declared.tree.FieldValue.{FieldValue, FieldValue-F, map-FieldValue, roll-FieldValue, out-roll-FieldValue}
use Rattle.koika_syntax.specs.declared.tree.Operand.{Operand, Operand-F, map-Operand, roll-Operand, out-roll-Operand}
use Rattle.koika_syntax.specs.declared.tree.Scheduler.{Scheduler, Scheduler-F, map-Scheduler, roll-Scheduler, out-roll-Scheduler, ind-Scheduler}
use Rattle.koika_syntax.specs.declared.tree.Statement.{Statement, Statement-F, map-Statement, roll-Statement, out-roll-Statement}
use Rattle.koika_syntax.specs.declared.tree.Suffix.{Suffix}
use Rattle.koika_syntax.specs.declared.tree.Suffix.TheVariants as suffixes
use Rattle.koika_syntax.specs.declared.tree.Tree.{Tree}
use Rattle.koika_syntax.specs.declared.tree.TypeExpression.{TypeExpression, TypeExpression-F, map-TypeExpression, roll-TypeExpression, out-roll-TypeExpression, ind-TypeExpression}
use Rattle.koika_syntax.specs.declared.tree.TypeExpression.TheOpen as type_expression
use Rattle.koika_syntax.specs.declared.tree.UpdatedPart.{UpdatedPart}
use Rattle.koika_syntax.specs.declared.tree.UpdatedPart.TheVariants as parts
use Rattle.koika_parse.specs.Places.{moved_type, moved_constant, moved_block, moved_suffix, moved_part, moved_field, moved_result, moved_declaration, moved_scheduler, moved}
use Rattle.koika_parse.proofs.Layers.{Such, Kind, ByLayer, Six, MapSix, Closed, type_kind, constant_kind, constant_field_kind, expression_kind, statement_kind}
use Rattle.koika_parse.proofs.Layers.{arm_kind, block_kind, field_value_kind, operand_kind, choice_kind, scheduler_kind}
use Rattle.koika_parse.proofs.UnambiguousLevels.{moved_constant_field, moved_expression, moved_statement, moved_arm, moved_field_value, moved_operand, moved_choice}
use Rattle.koika_parse.proofs.UnambiguousLevels.{type_moved_by, constant_moved_by, constant_field_moved_by, expression_moved_by, statement_moved_by, arm_moved_by, block_moved_by}
use Rattle.koika_parse.proofs.UnambiguousLevels.{field_value_moved_by, operand_moved_by, choice_moved_by, scheduler_moved_by}
use Rattle.koika_parse.proofs.UnambiguousLevels.{type_becomes, constant_becomes, expression_becomes, statement_becomes, scheduler_becomes, block_becomes}

-- what stays, stays in lists
abbrev Stays : {X : Type 0} → (X → X) → X → Type 0
Stays m x = m x ≡ x

each : {X : Type 0} (m : X → X) → ((x : X) → Stays m x) → (xs : List X) → map m xs ≡ xs
each m stays [] = refl
each m stays (x ∷ xs) = ap₂ (λ y ys. y ∷ ys) (stays x) (each m stays xs)

all : {X : Type 0} (m : X → X) (xs : List (Such (Stays m))) → map m (map (λ e. e.0) xs) ≡ map (λ e. e.0) xs
all m [] = refl
all m (x ∷ xs) = ap₂ (λ y ys. y ∷ ys) x.1 (all m xs)

-- a tree stays where its layer does
by_layer : (k : Kind) {m : k.Tree → k.Tree} {becomes : k.Layer → k.Tree} → ByLayer k m becomes → (d e : k.Layer) → k.out (k.roll d) ≡ d → becomes d ≡ k.roll d → d ≡ e → Stays m (k.roll e)
by_layer k {m} by d e out_roll stays same = subst (λ d. Stays m (k.roll d)) same (by (k.roll d) d out_roll ∙ stays)

abbrev id : ℕ → ℕ
id place = place

-- types
abbrev T : TypeExpression → TypeExpression
T = moved_type id

abbrev open_type : TypeExpression-F (Such (Stays T)) → TypeExpression-F TypeExpression
open_type y = map-TypeExpression (Such (Stays T)) TypeExpression (λ e. e.0) y

type_layer : (y : TypeExpression-F (Such (Stays T))) → type_becomes id (open_type y) ≡ roll-TypeExpression (open_type y)
type_layer (type_expression.Array place element size) = ap (λ t. roll-TypeExpression (type_expression.Array place t size)) element.1
type_layer _ = refl

type_stays : (t : TypeExpression) → Stays T t
type_stays = ind-TypeExpression (Stays T) (λ d y. by_layer type_kind (type_moved_by id) (open_type y) d (out-roll-TypeExpression (open_type y)) (type_layer y))

-- constants
abbrev C : Constant → Constant
C = moved_constant id

abbrev F : ConstantField → ConstantField
F = moved_constant_field id

abbrev open_constant : Constant-F (Such (Stays C)) (Such (Stays F)) → Constant-F Constant ConstantField
open_constant y = map-Constant (Such (Stays C)) (Such (Stays F)) Constant ConstantField (λ e. e.0) (λ e. e.0) y

abbrev open_constant_field : ConstantField-F (Such (Stays C)) (Such (Stays F)) → ConstantField-F Constant ConstantField
open_constant_field y = map-ConstantField (Such (Stays C)) (Such (Stays F)) Constant ConstantField (λ e. e.0) (λ e. e.0) y

constant_layer : (y : Constant-F (Such (Stays C)) (Such (Stays F))) → constant_becomes id (open_constant y) ≡ roll-Constant (open_constant y)
constant_layer (constant.Struct of fields close) = ap (λ fs. roll-Constant (constant.Struct of fs close)) (all F fields)
constant_layer (constant.Array place elements) = ap (λ es. roll-Constant (constant.Array place es)) (all C elements)
constant_layer _ = refl

constant_stays : (t : Constant) → Stays C t
constant_stays = ind-Constant (Stays C) (Stays F)
    (λ d y. by_layer constant_kind (constant_moved_by id) (open_constant y) d (out-roll-Constant (open_constant y)) (constant_layer y))
    (λ d y. by_layer constant_field_kind (constant_field_moved_by id) (open_constant_field y) d (out-roll-ConstantField (open_constant_field y))
    (ap (λ v. roll-ConstantField (record { name = y.name; value = v })) y.value.1))

-- expressions
abbrev E : Expression → Expression
E = moved_expression id

abbrev S : Statement → Statement
S = moved_statement id

abbrev A : Arm → Arm
A = moved_arm id

abbrev B : Block → Block
B = moved_block id

abbrev V : FieldValue → FieldValue
V = moved_field_value id

abbrev O : Operand → Operand
O = moved_operand id

abbrev Staying : Six → Type 0
Staying F = F (Such (Stays E)) (Such (Stays S)) (Such (Stays A)) (Such (Stays B)) (Such (Stays V)) (Such (Stays O))

abbrev open_in : (F : Six) → MapSix F → Staying F → Closed F
open_in F map y =
    map (Such (Stays E)) (Such (Stays S)) (Such (Stays A)) (Such (Stays B)) (Such (Stays V)) (Such (Stays O)) Expression Statement Arm Block FieldValue Operand
    (λ e. e.0) (λ e. e.0) (λ e. e.0) (λ e. e.0) (λ e. e.0) (λ e. e.0) y

suffix_stays : (s : Suffix) → moved_suffix id s ≡ s
suffix_stays (suffixes.Field n) = refl
suffix_stays (suffixes.Index index) = refl
suffix_stays (suffixes.Slice high low) = refl

part_stays : (part : UpdatedPart) → moved_part id part ≡ part
part_stays (parts.Field n) = refl
part_stays (parts.Index index) = refl

expression_layer : (y : Staying Expression-F) → expression_becomes id (open_in Expression-F map-Expression y) ≡ roll-Expression (open_in Expression-F map-Expression y)
expression_layer (expression.If arms None) = ap (λ arms. roll-Expression (expression.If arms None)) (all A arms)
expression_layer (expression.If arms (Some b)) = ap₂ (λ arms b. roll-Expression (expression.If arms (Some b))) (all A arms) b.1
expression_layer (expression.Chain first rest) = ap₂ (λ x os. roll-Expression (expression.Chain x os)) first.1 (all O rest)
expression_layer (expression.Unary prefixes operand) = ap₂ (λ ps x. roll-Expression (expression.Unary ps x)) (each _ (λ p. refl) prefixes) operand.1
expression_layer (expression.Postfix primary suffixes) = ap₂ (λ x ss. roll-Expression (expression.Postfix x ss)) primary.1 (each _ suffix_stays suffixes)
expression_layer (expression.Call called arguments) = ap (λ xs. roll-Expression (expression.Call called xs)) (all E arguments)
expression_layer (expression.Struct of fields close) = ap (λ fs. roll-Expression (expression.Struct of fs close)) (all V fields)
expression_layer (expression.Array place elements) = ap (λ xs. roll-Expression (expression.Array place xs)) (all E elements)
expression_layer (expression.Parentheses place inside) = ap (λ x. roll-Expression (expression.Parentheses place x)) inside.1
expression_layer (expression.Block b) = ap (λ b. roll-Expression (expression.Block b)) b.1
expression_layer (expression.Write place port register value) = ap (λ x. roll-Expression (expression.Write place port register x)) value.1
expression_layer (expression.Pack place value) = ap (λ x. roll-Expression (expression.Pack place x)) value.1
expression_layer (expression.Unpack place to value) = ap₂ (λ t x. roll-Expression (expression.Unpack place t x)) (type_stays to) value.1
expression_layer (expression.Extend place extension value width) = ap (λ x. roll-Expression (expression.Extend place extension x width)) value.1
expression_layer (expression.Compare place comparison left right) = ap₂ (λ x y. roll-Expression (expression.Compare place comparison x y)) left.1 right.1
expression_layer (expression.Update place whole part value) =
    ap₂ (λ x p. roll-Expression (expression.Update place x p (E value.0))) whole.1 (part_stays part) ∙ ap (λ y. roll-Expression (expression.Update place whole.0 part y)) value.1
expression_layer _ = refl

statement_layer : (y : Staying Statement-F) → statement_becomes id (open_in Statement-F map-Statement y) ≡ roll-Statement (open_in Statement-F map-Statement y)
statement_layer (expression.Let n value) = ap (λ x. roll-Statement (expression.Let n x)) value.1
statement_layer (expression.Do value) = ap (λ x. roll-Statement (expression.Do x)) value.1

block_layer : (place : ℕ) (statements : List (Such (Stays S))) (value : Option (Such (Stays E))) →
    let y : Staying Block-F = record { place = place; statements = statements; value = value } in block_becomes id (open_in Block-F map-Block y) ≡ roll-Block (open_in Block-F map-Block y)
block_layer place statements None = ap (λ ss. roll-Block (record { place = place; statements = ss; value = None })) (all S statements)
block_layer place statements (Some value) = ap₂ (λ ss x. roll-Block (record { place = place; statements = ss; value = Some x })) (all S statements) value.1

block_stays : (t : Block) → Stays B t
block_stays = ind-Block (Stays E) (Stays S) (Stays A) (Stays B) (Stays V) (Stays O)
    (λ d y. by_layer expression_kind (expression_moved_by id) (open_in Expression-F map-Expression y) d (out-roll-Expression _) (expression_layer y))
    (λ d y. by_layer statement_kind (statement_moved_by id) (open_in Statement-F map-Statement y) d (out-roll-Statement _) (statement_layer y))
    (λ d y. by_layer arm_kind (arm_moved_by id) (open_in Arm-F map-Arm y) d (out-roll-Arm _) (ap₂ (λ x b. roll-Arm (record { place = y.place; condition = x; body = b })) y.condition.1 y.body.1))
    (λ d y. by_layer block_kind (block_moved_by id) (open_in Block-F map-Block y) d (out-roll-Block _) (block_layer y.place y.statements y.value))
    (λ d y. by_layer field_value_kind (field_value_moved_by id) (open_in FieldValue-F map-FieldValue y) d (out-roll-FieldValue _)
    (ap (λ x. roll-FieldValue (record { name = y.name; value = x })) y.value.1))
    (λ d y. by_layer operand_kind (operand_moved_by id) (open_in Operand-F map-Operand y) d (out-roll-Operand _)
    (ap (λ x. roll-Operand (record { operator = y.operator; operand = x })) y.operand.1))

-- schedulers
abbrev H : Choice → Choice
H = moved_choice id

abbrev R : Scheduler → Scheduler
R = moved_scheduler id

abbrev open_choice : Choice-F (Such (Stays H)) (Such (Stays R)) → Choice-F Choice Scheduler
open_choice y = map-Choice (Such (Stays H)) (Such (Stays R)) Choice Scheduler (λ e. e.0) (λ e. e.0) y

abbrev open_scheduler : Scheduler-F (Such (Stays H)) (Such (Stays R)) → Scheduler-F Choice Scheduler
open_scheduler y = map-Scheduler (Such (Stays H)) (Such (Stays R)) Choice Scheduler (λ e. e.0) (λ e. e.0) y

scheduler_layer : (rules : _) (last : Option (Such (Stays H))) →
    let y : Scheduler-F (Such (Stays H)) (Such (Stays R)) = record { rules = rules; last = last } in scheduler_becomes id (open_scheduler y) ≡ roll-Scheduler (open_scheduler y)
scheduler_layer rules None = ap (λ rs. roll-Scheduler (record { rules = rs; last = None })) (each _ (λ n. refl) rules)
scheduler_layer rules (Some c) = ap₂ (λ rs c. roll-Scheduler (record { rules = rs; last = Some c })) (each _ (λ n. refl) rules) c.1

scheduler_stays : (t : Scheduler) → Stays R t
scheduler_stays = ind-Scheduler (Stays H) (Stays R)
    (λ d y. by_layer choice_kind (choice_moved_by id) (open_choice y) d (out-roll-Choice _) (ap₂ (λ a b. roll-Choice (record { rule = y.rule; then = a; otherwise = b })) y.then.1 y.otherwise.1))
    (λ d y. by_layer scheduler_kind (scheduler_moved_by id) (open_scheduler y) d (out-roll-Scheduler _) (scheduler_layer y.rules y.last))

-- declarations and designs
field_stays : (f : Field) → moved_field id f ≡ f
field_stays f = ap (λ t. record f { of = t }) (type_stays f.of)

result_stays : (of : Option TypeExpression) → moved_result id of ≡ of
result_stays None = refl
result_stays (Some of) = ap (λ t. Some t) (type_stays of)

declaration_stays : (d : Declaration) → moved_declaration id d ≡ d
declaration_stays (declarations.Enum n width members) = ap (λ ms. declarations.Enum n width ms) (each _ (λ m. refl) members)
declaration_stays (declarations.Struct n fields) = ap (λ fs. declarations.Struct n fs) (each _ field_stays fields)
declaration_stays (declarations.Register n of first) = ap₂ (λ t c. declarations.Register n t c) (type_stays of) (constant_stays first)
declaration_stays (declarations.Input n of) = ap (λ t. declarations.Input n t) (type_stays of)
declaration_stays (declarations.Table n input output entries) = ap (λ ls. declarations.Table n input output ls) (each _ (λ l. refl) entries)
declaration_stays (declarations.Host n input output) = refl
declaration_stays (declarations.Function n parameters of body) =
    ap₂ (λ ps t. declarations.Function n ps t (B body)) (each _ field_stays parameters) (result_stays of) ∙ ap (λ b. declarations.Function n parameters of b) (block_stays body)
declaration_stays (declarations.Rule n body) = ap (λ b. declarations.Rule n b) (block_stays body)
declaration_stays (declarations.Assert n) = refl

pub tree_stays : (t : Tree) → moved id t ≡ t
tree_stays t = ap₂ (λ ds s. record t { declarations = ds; scheduler = s }) (each _ declaration_stays t.declarations) (scheduler_stays t.scheduler)
