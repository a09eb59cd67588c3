-- What expressions of the grammar come to is well typed.
use Rattle.std.proofs.Common.{◌≡◌, ℕ, ◌≤◌, inl, inr, Option, None, Some, IfSome, List, [], ◌∷◌, length, map, arith, refl, sym, subst, ◌∙◌}
use Rattle.std.specs.List.{AllByRecursion}
use Rattle.std.proofs.lemmas.List.{length-map}
use Rattle.koika_syntax.specs.Grammar.{IsArmLayer, IsBlock, IsBlockLayer, IsExpressionLayer, IsFieldValueLayer, IsOperandLayer, IsStatementLayer}
use Rattle.koika_syntax.specs.inner.Grammar.{IsExpression}
use Rattle.koika_syntax.specs.declared.tree.Expression.{Expression, Expression-F, map-Expression, roll-Expression, every_held-Expression, every_here-Expression, out-roll-Expression, fold-roll-Expression, ind-Expression}
use Rattle.koika_syntax.specs.declared.tree.Statement.{Statement, Statement-F, map-Statement, roll-Statement, every_held-Statement, out-roll-Statement, fold-roll-Statement}
use Rattle.koika_syntax.specs.declared.tree.Arm.{Arm, Arm-F, map-Arm, roll-Arm, every_held-Arm, out-roll-Arm, fold-roll-Arm}
use Rattle.koika_syntax.specs.declared.tree.Block.{Block, Block-F, map-Block, roll-Block, every_held-Block, out-roll-Block, fold-roll-Block, ind-Block}
use Rattle.koika_syntax.specs.declared.tree.FieldValue.{FieldValue, FieldValue-F, map-FieldValue, roll-FieldValue, every_held-FieldValue, out-roll-FieldValue, fold-roll-FieldValue}
use Rattle.koika_syntax.specs.declared.tree.Operand.{Operand, Operand-F, map-Operand, roll-Operand, every_held-Operand, out-roll-Operand, fold-roll-Operand}
use Rattle.koika_syntax.specs.declared.tree.Expression.TheOpen as expression
use Rattle.kw_base.specs.declared.fault_number.TheConstants.{UNKNOWN_NAME}
use Rattle.koika_check.specs.Constructs.{ArmTyping, FieldTyping, Typing, call, comparison, conditional, extended, array_in, packed, postfix, struct_in, typing, unary, unpacked, updated, written}
use Rattle.koika_check.specs.Expressions.{Armed, Fielded, Joining, ExpressionTyping, StatementTyping, Stepping, all_in, arm_step, block_in, block_step, chain_in, expression_step, field_value_step, operand_step, otherwise_in, statement_step}
use Rattle.koika_check.specs.inner.Expressions.{arm_in, expression_in, field_value_in, operand_in, statement_in}
use Rattle.koika_check.specs.Outcomes.{Gives, CheckResult, ◌>>=◌, found, wrong}
use Rattle.koika_check.specs.Scopes.{Local, Scope, called, register}
use Rattle.koika_check.specs.Types.{type_of, wrong_type}
use Rattle.koika_check.specs.Typing.{Binds, HasType, Runs}
use Rattle.koika_check.specs.declared.typed.BlockStep.TheOpen as opened
use Rattle.koika_check.specs.declared.typed.BlockStep.TheVariants as step
use Rattle.koika_check.specs.Kinds.{number_named}
use Rattle.koika_check.specs.declared.things.Kind.TheVariants as kind
use Rattle.koika_check.proofs.Answering.{bind-gives, found-some}
use Rattle.koika_syntax.proofs.TreeParts.{EachOfArm, EachOfBlock, EachOfExpression, EachOfFieldValue, EachOfOperand, EachOfStatement, Such, each_of_arm, each_of_block, each_of_expression, each_of_field_value, each_of_operand, each_of_statement, IsArm, IsFieldValue, IsOperand, IsStatement}
use Rattle.koika_check.proofs.TypedBlocks.{Sound, SoundStep, IsStepped, block-typed, chain-typed, scope_at}
use Rattle.koika_check.proofs.TypedComposites.{IsArmed, array-typed, call-typed, conditional-typed, struct-typed, turn-all}
use Rattle.koika_check.proofs.TypedConstructs.{IsTyped, abort-typed, comparison-typed, extended-typed, literal-typed, member-typed, named-typed, packed-typed, postfix-typed, read-typed, unary-typed, unpacked-typed, updated-typed, written-typed}
use Rattle.koika_check.proofs.TypedGrowth.{typed-valid}
use Rattle.koika_check.proofs.TypedParts.{gives-same, type-valid}
use Rattle.koika_check.proofs.TypedSoFar.{IsGood, declares-so-far, types_in}
use Rattle.koika_check.proofs.TypingLayers.{close-step}

-- ---- what each part comes to is well typed

abbrev SoundArm : Armed → Type 0
SoundArm m = (scope : Scope) → IsGood scope → (x : ArmTyping) → m scope ≡ Gives x → IsArmed scope x

abbrev SoundField : Fielded → Type 0
SoundField m = (scope : Scope) → IsGood scope → (x : FieldTyping) → m scope ≡ Gives x → IsTyped scope x.typing

abbrev SoundOperand : Joining → Type 0
SoundOperand j = Sound j.operand

-- the meanings of parts, where the parts are of the grammar
abbrev FineExpression : Expression → Type 0
FineExpression t = IsExpression t → Sound (expression_in t)

abbrev FineStatement : Statement → Type 0
FineStatement t = IsStatement t → SoundStep (statement_in t)

abbrev FineArm : Arm → Type 0
FineArm t = IsArm t → SoundArm (arm_in t)

abbrev FineBlock : Block → Type 0
FineBlock t = IsBlock t → Sound (block_in t)

abbrev FineFieldValue : FieldValue → Type 0
FineFieldValue t = IsFieldValue t → SoundField (field_value_in t)

abbrev FineOperand : Operand → Type 0
FineOperand t = IsOperand t → SoundOperand (operand_in t)

abbrev ExpressionIs : Expression-F Expression Statement Arm Block FieldValue Operand → Type 0
ExpressionIs = EachOfExpression IsExpression IsStatement IsArm IsBlock IsFieldValue IsOperand

abbrev ExpressionFine : Expression-F Expression Statement Arm Block FieldValue Operand → Type 0
ExpressionFine = EachOfExpression FineExpression FineStatement FineArm FineBlock FineFieldValue FineOperand

-- all of the parts in a list
sounds : {X M : Type 0} (Is : X → Type 0) (P : M → Type 0) (meaning : X → M) (xs : List X) → AllByRecursion Is xs → AllByRecursion (λ x. Is x → P (meaning x)) xs → AllByRecursion P (map meaning xs)
sounds Is P meaning [] is fine = tt
sounds Is P meaning (x ∷ xs) is fine = (fine.0 is.0, sounds Is P meaning xs is.1 fine.1)

-- what all parts give in a scope
gives_all : {Y : Type 0} (P : Scope → Y → Type 0) (ms : List (Scope → CheckResult Y)) (scope : Scope) (ys : List Y) → IsGood scope →
    AllByRecursion (λ (m : Scope → CheckResult Y). (s : Scope) → IsGood s → (y : Y) → m s ≡ Gives y → P s y) ms → all_in scope ms ≡ Gives ys → AllByRecursion (P scope) ys
gives_all {Y} P ms scope ys good sound e = turn-all (P scope) (λ look. look scope) ms ys (at_scope ms sound) e
  where
    at_scope : (ms : List (Scope → CheckResult Y)) → AllByRecursion (λ (m : Scope → CheckResult Y). (s : Scope) → IsGood s → (y : Y) → m s ≡ Gives y → P s y) ms →
        AllByRecursion (λ (m : Scope → CheckResult Y). (y : Y) → m scope ≡ Gives y → P scope y) ms
    at_scope [] h = tt
    at_scope (m ∷ ms) h = (h.0 scope good, at_scope ms h.1)

-- the body behind the last `else`
otherwise_typed : (scope : Scope) → IsGood scope → (last : Option ExpressionTyping) (xs : List Typing) → IfSome last Sound → otherwise_in scope last ≡ Gives xs → AllByRecursion (IsTyped scope) xs × (length xs ≤ 1)
otherwise_typed scope good None xs sound e = subst (λ xs. AllByRecursion (IsTyped scope) xs × (length xs ≤ 1)) (gives-same [] xs e) (tt, omega arith)
otherwise_typed scope good (Some last) xs sound e =
    let body = bind-gives (last scope) _ xs e in
    subst (λ xs. AllByRecursion (IsTyped scope) xs × (length xs ≤ 1)) (gives-same (body.0 ∷ []) xs body.2) ((sound scope good body.0 body.1, tt), omega arith)

if_typed : (arms : List Armed) (last : Option ExpressionTyping) (scope : Scope) (x : Typing) → IsGood scope → AllByRecursion SoundArm arms → IfSome last Sound →
    (all_in scope arms >>= λ typed_arms. otherwise_in scope last >>= conditional typed_arms) ≡ Gives x → IsTyped scope x
if_typed arms last scope x good sound last_sound e =
    let all = bind-gives (all_in scope arms) (λ typed_arms. otherwise_in scope last >>= conditional typed_arms) x e in
    let other = bind-gives (otherwise_in scope last) (conditional all.0) x all.2 in
    let typed_last = otherwise_typed scope good last other.0 last_sound other.1 in
    conditional-typed scope all.0 other.0 x typed_last.1 (gives_all IsArmed arms scope all.0 good sound all.1) typed_last.0 other.2

-- ---- the layers of expressions

abbrev expression_layer : Expression-F Expression Statement Arm Block FieldValue Operand → ExpressionTyping
expression_layer d = expression_step (map-Expression Expression Statement Arm Block FieldValue Operand ExpressionTyping StatementTyping Armed ExpressionTyping Fielded Joining expression_in statement_in arm_in block_in field_value_in operand_in d)

expression_sound : (d : Expression-F Expression Statement Arm Block FieldValue Operand) → IsExpressionLayer d → ExpressionIs d → ExpressionFine d → Sound (expression_layer d)
expression_sound (expression.If arms None) here is fine scope good x e =
    if_typed (map arm_in arms) None scope x good (sounds IsArm SoundArm arm_in arms is.0 fine.0) tt e
expression_sound (expression.If arms (Some b)) here is fine scope good x e =
    if_typed (map arm_in arms) (Some (block_in b)) scope x good (sounds IsArm SoundArm arm_in arms is.0 fine.0) (fine.1 is.1) e
expression_sound (expression.Chain first rest) here is fine scope good x e =
    let one = bind-gives (expression_in first scope) (chain_in scope (map operand_in rest)) x e in
    chain-typed scope good (map operand_in rest) one.0 x (omega (arith, here.0, length-map rest operand_in)) (sounds IsOperand SoundOperand operand_in rest is.1 fine.1) (fine.0 is.0 scope good one.0 one.1) one.2
expression_sound (expression.Unary prefixes operand) here is fine scope good x e =
    let one = bind-gives (expression_in operand scope) (unary prefixes) x e in
    unary-typed scope prefixes one.0 x (fine is scope good one.0 one.1) one.2
expression_sound (expression.Postfix primary suffixes) here is fine scope good x e =
    let one = bind-gives (expression_in primary scope) (postfix scope.design suffixes) x e in
    postfix-typed scope suffixes one.0 x here.1 (fine is scope good one.0 one.1) one.2
expression_sound (expression.Literal l) here is fine scope good x e = subst (IsTyped scope) (gives-same _ x e) (literal-typed scope l here)
expression_sound (expression.Name n) here is fine scope good x e = named-typed scope n x e
expression_sound (expression.Call n arguments) here is fine scope good x e =
    let c = bind-gives (called scope.design n) (λ c. all_in scope (map expression_in arguments) >>= call n c) x e in
    let all = bind-gives (all_in scope (map expression_in arguments)) (call n c.0) x c.2 in
    call-typed scope n c.0 all.0 x c.1 (gives_all IsTyped (map expression_in arguments) scope all.0 good (sounds IsExpression Sound expression_in arguments is fine) all.1) all.2
expression_sound (expression.Member of member) here is fine scope good x e = member-typed scope good of member x e
expression_sound (expression.Struct of fields close) here is fine scope good x e =
    let number = bind-gives (found (number_named kind.Struct scope.design of.text) (wrong UNKNOWN_NAME of.place)) (λ number. all_in scope (map field_value_in fields) >>= struct_in scope.design number of.place close) x e in
    let all = bind-gives (all_in scope (map field_value_in fields)) (struct_in scope.design number.0 of.place close) x number.2 in
    struct-typed scope good number.0 of.place close all.0 x
    (gives_all (λ s (f : FieldTyping). IsTyped s f.typing) (map field_value_in fields) scope all.0 good (sounds IsFieldValue SoundField field_value_in fields is fine) all.1) all.2
expression_sound (expression.Array place elements) here is fine scope good x e =
    let all = bind-gives (all_in scope (map expression_in elements)) (array_in scope.design place) x e in
    array-typed scope place all.0 x (gives_all IsTyped (map expression_in elements) scope all.0 good (sounds IsExpression Sound expression_in elements is fine) all.1) all.2
expression_sound (expression.Parentheses place inside) here is fine scope good x e =
    let one = bind-gives (expression_in inside scope) (λ inner. Gives (typing inner.part.of place inner.typed)) x e in
    subst (IsTyped scope) (gives-same (typing one.0.part.of place one.0.typed) x one.2) (fine is scope good one.0 one.1)
expression_sound (expression.Block block) here is fine scope good x e = fine is scope good x e
expression_sound (expression.Read place port register) here is fine scope good x e = read-typed scope place port register x here.0 e
expression_sound (expression.Write place port r value) here is fine scope good x e =
    let number = bind-gives (register scope.design r) (λ number. expression_in value scope >>= written scope.design place port number) x e in
    let one = bind-gives (expression_in value scope) (written scope.design place port number.0) x number.2 in
    written-typed scope place port number.0 r one.0 x here.0 number.1 (fine is scope good one.0 one.1) one.2
expression_sound (expression.Abort place) here is fine scope good x e = subst (IsTyped scope) (gives-same _ x e) (abort-typed scope place)
expression_sound (expression.Pack place value) here is fine scope good x e =
    let one = bind-gives (expression_in value scope) (packed scope.design place) x e in
    packed-typed scope place one.0 x (fine is scope good one.0 one.1) one.2
expression_sound (expression.Unpack place to value) here is fine scope good x e =
    let of = bind-gives (type_of scope.design to) (λ of. expression_in value scope >>= unpacked scope.design place of) x e in
    let one = bind-gives (expression_in value scope) (unpacked scope.design place of.0) x of.2 in
    unpacked-typed scope place of.0 one.0 x (type-valid scope.design to of.0 of.1) (fine is scope good one.0 one.1) one.2
expression_sound (expression.Extend place extension value width) here is fine scope good x e =
    let one = bind-gives (expression_in value scope) (extended place extension width) x e in
    extended-typed scope place extension width one.0 x (fine is scope good one.0 one.1) one.2
expression_sound (expression.Compare place o left right) here is fine scope good x e =
    let one = bind-gives (expression_in left scope) (λ one. expression_in right scope >>= comparison place o one) x e in
    let two = bind-gives (expression_in right scope) (comparison place o one.0) x one.2 in
    comparison-typed scope place o one.0 two.0 x (fine.0 is.0 scope good one.0 one.1) (fine.1 is.1 scope good two.0 two.1) two.2
expression_sound (expression.Update place whole part value) here is fine scope good x e =
    let old = bind-gives (expression_in whole scope) (λ old. expression_in value scope >>= updated scope.design place part old) x e in
    let new = bind-gives (expression_in value scope) (updated scope.design place part old.0) x old.2 in
    updated-typed scope place part old.0 new.0 x (fine.0 is.0 scope good old.0 old.1) (fine.1 is.1 scope good new.0 new.1) new.2

abbrev statement_layer : Statement-F Expression Statement Arm Block FieldValue Operand → StatementTyping
statement_layer d = statement_step (map-Statement Expression Statement Arm Block FieldValue Operand ExpressionTyping StatementTyping Armed ExpressionTyping Fielded Joining expression_in statement_in arm_in block_in field_value_in operand_in d)

statement_sound : (d : Statement-F Expression Statement Arm Block FieldValue Operand) → EachOfStatement IsExpression IsStatement IsArm IsBlock IsFieldValue IsOperand d →
    EachOfStatement FineExpression FineStatement FineArm FineBlock FineFieldValue FineOperand d → SoundStep (statement_layer d)
statement_sound (expression.Let n value) is fine d locals good one e =
    let scope = scope_at d locals in
    let inner = bind-gives (expression_in value scope) _ one e in
    let of = bind-gives (found inner.0.part.of (wrong_type inner.0.part)) _ one inner.2 in
    let there : inner.0.part.of ≡ Some of.0 = found-some inner.0.part.of (wrong_type inner.0.part) of.0 of.1 in
    let has = subst (λ of. HasType d (length d.functions) inner.0.typed (types_in scope) of) there (fine is scope good inner.0 inner.1) in
    let l : Local = record { name = n.text; of = of.0 } in
    let made : Stepping = record { step = step.Let inner.0.typed; behind = scope_at d (l ∷ locals) } in
    subst (IsStepped d locals) (gives-same made one of.2)
    (inl (
      l,
      close-step d (length d.functions) (step.Let inner.0.typed) (opened.Let inner.0.typed) (step.rolls-Let inner.0.typed) (types_in scope) (Binds of.0) has,
      typed-valid d (declares-so-far d good.design) (length d.functions) inner.0.typed (types_in scope) (Some of.0) good.locals has,
      refl,
    ))
statement_sound (expression.Do value) is fine d locals good one e =
    let scope = scope_at d locals in
    let inner = bind-gives (expression_in value scope) _ one e in
    let made : Stepping = record { step = step.Do inner.0.typed; behind = scope } in
    subst (IsStepped d locals) (gives-same made one inner.2)
    (inr (close-step d (length d.functions) (step.Do inner.0.typed) (opened.Do inner.0.typed) (step.rolls-Do inner.0.typed) (types_in scope) Runs (inner.0.part.of, fine is scope good inner.0 inner.1), refl))

abbrev arm_layer : Arm-F Expression Statement Arm Block FieldValue Operand → Armed
arm_layer d = arm_step (map-Arm Expression Statement Arm Block FieldValue Operand ExpressionTyping StatementTyping Armed ExpressionTyping Fielded Joining expression_in statement_in arm_in block_in field_value_in operand_in d)

arm_sound : (d : Arm-F Expression Statement Arm Block FieldValue Operand) → EachOfArm IsExpression IsStatement IsArm IsBlock IsFieldValue IsOperand d →
    EachOfArm FineExpression FineStatement FineArm FineBlock FineFieldValue FineOperand d → SoundArm (arm_layer d)
arm_sound d is fine scope good x e =
    let condition = bind-gives (expression_in d.condition scope) _ x e in
    let body = bind-gives (block_in d.body scope) _ x condition.2 in
    let made : ArmTyping = record { place = d.place; condition = condition.0; body = body.0 } in
    subst (IsArmed scope) (gives-same made x body.2) (fine.0 is.0 scope good condition.0 condition.1, fine.1 is.1 scope good body.0 body.1)

abbrev block_layer : Block-F Expression Statement Arm Block FieldValue Operand → ExpressionTyping
block_layer d = block_step (map-Block Expression Statement Arm Block FieldValue Operand ExpressionTyping StatementTyping Armed ExpressionTyping Fielded Joining expression_in statement_in arm_in block_in field_value_in operand_in d)

block_sound : (d : Block-F Expression Statement Arm Block FieldValue Operand) → EachOfBlock IsExpression IsStatement IsArm IsBlock IsFieldValue IsOperand d →
    EachOfBlock FineExpression FineStatement FineArm FineBlock FineFieldValue FineOperand d → Sound (block_layer d)
block_sound d is fine = of_parts d.place d.statements d.value is fine
  where
    of_parts : (place : ℕ) (statements : List Statement) (value : Option Expression) →
        EachOfBlock IsExpression IsStatement IsArm IsBlock IsFieldValue IsOperand (record { place = place; statements = statements; value = value }) →
        EachOfBlock FineExpression FineStatement FineArm FineBlock FineFieldValue FineOperand (record { place = place; statements = statements; value = value }) →
        Sound (block_layer (record { place = place; statements = statements; value = value }))
    of_parts place statements None is fine = block-typed place (map statement_in statements) None (sounds IsStatement SoundStep statement_in statements is.0 fine.0) tt
    of_parts place statements (Some b) is fine =
        block-typed place (map statement_in statements) (Some (expression_in b)) (sounds IsStatement SoundStep statement_in statements is.0 fine.0) (fine.1 is.1)

abbrev field_value_layer : FieldValue-F Expression Statement Arm Block FieldValue Operand → Fielded
field_value_layer d = field_value_step (map-FieldValue Expression Statement Arm Block FieldValue Operand ExpressionTyping StatementTyping Armed ExpressionTyping Fielded Joining expression_in statement_in arm_in block_in field_value_in operand_in d)

field_value_sound : (d : FieldValue-F Expression Statement Arm Block FieldValue Operand) → EachOfFieldValue IsExpression IsStatement IsArm IsBlock IsFieldValue IsOperand d →
    EachOfFieldValue FineExpression FineStatement FineArm FineBlock FineFieldValue FineOperand d → SoundField (field_value_layer d)
field_value_sound d is fine scope good x e =
    let inner = bind-gives (expression_in d.value scope) _ x e in
    let made : FieldTyping = record { name = d.name; typing = inner.0 } in
    subst (λ (f : FieldTyping). IsTyped scope f.typing) (gives-same made x inner.2) (fine is scope good inner.0 inner.1)

-- ---- the cycle

expression_of_layer : (d : Expression-F Expression Statement Arm Block FieldValue Operand) (y : Expression-F (Such FineExpression) (Such FineStatement) (Such FineArm) (Such FineBlock) (Such FineFieldValue) (Such FineOperand)) →
    map-Expression (Such FineExpression) (Such FineStatement) (Such FineArm) (Such FineBlock) (Such FineFieldValue) (Such FineOperand) Expression Statement Arm Block FieldValue Operand (λ e. e.0) (λ e. e.0) (λ e. e.0) (λ e. e.0) (λ e. e.0) (λ e. e.0) y ≡ d → FineExpression (roll-Expression d)
unfolding IsExpression IsBlock expression_in statement_in arm_in block_in field_value_in operand_in
expression_of_layer d y same is =
    let held = every_held-Expression IsExpressionLayer IsStatementLayer IsArmLayer IsBlockLayer IsFieldValueLayer IsOperandLayer (roll-Expression d) is in
    let here = subst IsExpressionLayer (out-roll-Expression d) (every_here-Expression IsExpressionLayer IsStatementLayer IsArmLayer IsBlockLayer IsFieldValueLayer IsOperandLayer (roll-Expression d) is) in
    let parts_are = subst (EachOfExpression IsExpression IsStatement IsArm IsBlock IsFieldValue IsOperand) (held.1 ∙ out-roll-Expression d) (each_of_expression IsExpression IsStatement IsArm IsBlock IsFieldValue IsOperand held.0) in
    let parts_fine = subst (EachOfExpression FineExpression FineStatement FineArm FineBlock FineFieldValue FineOperand) same (each_of_expression FineExpression FineStatement FineArm FineBlock FineFieldValue FineOperand y) in
    subst Sound (sym (fold-roll-Expression ExpressionTyping StatementTyping Armed ExpressionTyping Fielded Joining expression_step statement_step arm_step block_step field_value_step operand_step d)) (expression_sound d here parts_are parts_fine)

statement_of_layer : (d : Statement-F Expression Statement Arm Block FieldValue Operand) (y : Statement-F (Such FineExpression) (Such FineStatement) (Such FineArm) (Such FineBlock) (Such FineFieldValue) (Such FineOperand)) →
    map-Statement (Such FineExpression) (Such FineStatement) (Such FineArm) (Such FineBlock) (Such FineFieldValue) (Such FineOperand) Expression Statement Arm Block FieldValue Operand (λ e. e.0) (λ e. e.0) (λ e. e.0) (λ e. e.0) (λ e. e.0) (λ e. e.0) y ≡ d → FineStatement (roll-Statement d)
unfolding IsExpression IsBlock expression_in statement_in arm_in block_in field_value_in operand_in
statement_of_layer d y same is =
    let held = every_held-Statement IsExpressionLayer IsStatementLayer IsArmLayer IsBlockLayer IsFieldValueLayer IsOperandLayer (roll-Statement d) is in
    let parts_are = subst (EachOfStatement IsExpression IsStatement IsArm IsBlock IsFieldValue IsOperand) (held.1 ∙ out-roll-Statement d) (each_of_statement IsExpression IsStatement IsArm IsBlock IsFieldValue IsOperand held.0) in
    let parts_fine = subst (EachOfStatement FineExpression FineStatement FineArm FineBlock FineFieldValue FineOperand) same (each_of_statement FineExpression FineStatement FineArm FineBlock FineFieldValue FineOperand y) in
    subst SoundStep (sym (fold-roll-Statement ExpressionTyping StatementTyping Armed ExpressionTyping Fielded Joining expression_step statement_step arm_step block_step field_value_step operand_step d)) (statement_sound d parts_are parts_fine)

arm_of_layer : (d : Arm-F Expression Statement Arm Block FieldValue Operand) (y : Arm-F (Such FineExpression) (Such FineStatement) (Such FineArm) (Such FineBlock) (Such FineFieldValue) (Such FineOperand)) →
    map-Arm (Such FineExpression) (Such FineStatement) (Such FineArm) (Such FineBlock) (Such FineFieldValue) (Such FineOperand) Expression Statement Arm Block FieldValue Operand (λ e. e.0) (λ e. e.0) (λ e. e.0) (λ e. e.0) (λ e. e.0) (λ e. e.0) y ≡ d → FineArm (roll-Arm d)
unfolding IsExpression IsBlock expression_in statement_in arm_in block_in field_value_in operand_in
arm_of_layer d y same is =
    let held = every_held-Arm IsExpressionLayer IsStatementLayer IsArmLayer IsBlockLayer IsFieldValueLayer IsOperandLayer (roll-Arm d) is in
    let parts_are = subst (EachOfArm IsExpression IsStatement IsArm IsBlock IsFieldValue IsOperand) (held.1 ∙ out-roll-Arm d) (each_of_arm IsExpression IsStatement IsArm IsBlock IsFieldValue IsOperand held.0) in
    let parts_fine = subst (EachOfArm FineExpression FineStatement FineArm FineBlock FineFieldValue FineOperand) same (each_of_arm FineExpression FineStatement FineArm FineBlock FineFieldValue FineOperand y) in
    subst SoundArm (sym (fold-roll-Arm ExpressionTyping StatementTyping Armed ExpressionTyping Fielded Joining expression_step statement_step arm_step block_step field_value_step operand_step d)) (arm_sound d parts_are parts_fine)

block_of_layer : (d : Block-F Expression Statement Arm Block FieldValue Operand) (y : Block-F (Such FineExpression) (Such FineStatement) (Such FineArm) (Such FineBlock) (Such FineFieldValue) (Such FineOperand)) →
    map-Block (Such FineExpression) (Such FineStatement) (Such FineArm) (Such FineBlock) (Such FineFieldValue) (Such FineOperand) Expression Statement Arm Block FieldValue Operand (λ e. e.0) (λ e. e.0) (λ e. e.0) (λ e. e.0) (λ e. e.0) (λ e. e.0) y ≡ d → FineBlock (roll-Block d)
unfolding IsExpression IsBlock expression_in statement_in arm_in block_in field_value_in operand_in
block_of_layer d y same is =
    let held = every_held-Block IsExpressionLayer IsStatementLayer IsArmLayer IsBlockLayer IsFieldValueLayer IsOperandLayer (roll-Block d) is in
    let parts_are = subst (EachOfBlock IsExpression IsStatement IsArm IsBlock IsFieldValue IsOperand) (held.1 ∙ out-roll-Block d) (each_of_block IsExpression IsStatement IsArm IsBlock IsFieldValue IsOperand held.0) in
    let parts_fine = subst (EachOfBlock FineExpression FineStatement FineArm FineBlock FineFieldValue FineOperand) same (each_of_block FineExpression FineStatement FineArm FineBlock FineFieldValue FineOperand y) in
    subst Sound (sym (fold-roll-Block ExpressionTyping StatementTyping Armed ExpressionTyping Fielded Joining expression_step statement_step arm_step block_step field_value_step operand_step d)) (block_sound d parts_are parts_fine)

field_value_of_layer : (d : FieldValue-F Expression Statement Arm Block FieldValue Operand) (y : FieldValue-F (Such FineExpression) (Such FineStatement) (Such FineArm) (Such FineBlock) (Such FineFieldValue) (Such FineOperand)) →
    map-FieldValue (Such FineExpression) (Such FineStatement) (Such FineArm) (Such FineBlock) (Such FineFieldValue) (Such FineOperand) Expression Statement Arm Block FieldValue Operand (λ e. e.0) (λ e. e.0) (λ e. e.0) (λ e. e.0) (λ e. e.0) (λ e. e.0) y ≡ d → FineFieldValue (roll-FieldValue d)
unfolding IsExpression IsBlock expression_in statement_in arm_in block_in field_value_in operand_in
field_value_of_layer d y same is =
    let held = every_held-FieldValue IsExpressionLayer IsStatementLayer IsArmLayer IsBlockLayer IsFieldValueLayer IsOperandLayer (roll-FieldValue d) is in
    let parts_are = subst (EachOfFieldValue IsExpression IsStatement IsArm IsBlock IsFieldValue IsOperand) (held.1 ∙ out-roll-FieldValue d) (each_of_field_value IsExpression IsStatement IsArm IsBlock IsFieldValue IsOperand held.0) in
    let parts_fine = subst (EachOfFieldValue FineExpression FineStatement FineArm FineBlock FineFieldValue FineOperand) same (each_of_field_value FineExpression FineStatement FineArm FineBlock FineFieldValue FineOperand y) in
    subst SoundField (sym (fold-roll-FieldValue ExpressionTyping StatementTyping Armed ExpressionTyping Fielded Joining expression_step statement_step arm_step block_step field_value_step operand_step d)) (field_value_sound d parts_are parts_fine)

operand_of_layer : (d : Operand-F Expression Statement Arm Block FieldValue Operand) (y : Operand-F (Such FineExpression) (Such FineStatement) (Such FineArm) (Such FineBlock) (Such FineFieldValue) (Such FineOperand)) →
    map-Operand (Such FineExpression) (Such FineStatement) (Such FineArm) (Such FineBlock) (Such FineFieldValue) (Such FineOperand) Expression Statement Arm Block FieldValue Operand (λ e. e.0) (λ e. e.0) (λ e. e.0) (λ e. e.0) (λ e. e.0) (λ e. e.0) y ≡ d → FineOperand (roll-Operand d)
unfolding IsExpression IsBlock expression_in statement_in arm_in block_in field_value_in operand_in
operand_of_layer d y same is =
    let held = every_held-Operand IsExpressionLayer IsStatementLayer IsArmLayer IsBlockLayer IsFieldValueLayer IsOperandLayer (roll-Operand d) is in
    let parts_are = subst (EachOfOperand IsExpression IsStatement IsArm IsBlock IsFieldValue IsOperand) (held.1 ∙ out-roll-Operand d) (each_of_operand IsExpression IsStatement IsArm IsBlock IsFieldValue IsOperand held.0) in
    let parts_fine = subst (EachOfOperand FineExpression FineStatement FineArm FineBlock FineFieldValue FineOperand) same (each_of_operand FineExpression FineStatement FineArm FineBlock FineFieldValue FineOperand y) in
    subst SoundOperand (sym (fold-roll-Operand ExpressionTyping StatementTyping Armed ExpressionTyping Fielded Joining expression_step statement_step arm_step block_step field_value_step operand_step d)) (parts_fine parts_are)

-- an expression, and a block, of the grammar
pub expression-typed : (t : Expression) → IsExpression t → Sound (expression_in t)
expression-typed = ind-Expression FineExpression FineStatement FineArm FineBlock FineFieldValue FineOperand expression_of_layer statement_of_layer arm_of_layer block_of_layer field_value_of_layer operand_of_layer

pub block-in-typed : (t : Block) → IsBlock t → Sound (block_in t)
block-in-typed = ind-Block FineExpression FineStatement FineArm FineBlock FineFieldValue FineOperand expression_of_layer statement_of_layer arm_of_layer block_of_layer field_value_of_layer operand_of_layer
