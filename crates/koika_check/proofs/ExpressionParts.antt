-- What an expression comes to, by what its parts come to.
use Rattle.std.proofs.Common.{◌≡◌, ℕ, List, map, ap, sym, ◌∙◌}
use Rattle.kw_base.specs.declared.fault_number.TheConstants.{UNKNOWN_NAME}
use Rattle.koika_syntax.specs.declared.operator.Extension.{Extension}
use Rattle.koika_syntax.specs.declared.operator.SignedComparison.{SignedComparison}
use Rattle.koika_syntax.specs.declared.tree.Block.{Block}
use Rattle.koika_syntax.specs.declared.tree.Expression.{Expression, fold-roll-Expression}
use Rattle.koika_syntax.specs.declared.tree.Expression.TheOpen as opened
use Rattle.koika_syntax.specs.declared.tree.Expression.TheVariants as variants
use Rattle.koika_syntax.specs.declared.tree.Expression.TheViews as views
use Rattle.koika_syntax.specs.declared.tree.FieldValue.{FieldValue}
use Rattle.koika_syntax.specs.declared.tree.Literal.{Literal}
use Rattle.koika_syntax.specs.declared.tree.Name.{Name}
use Rattle.koika_syntax.specs.declared.tree.Number.{Number}
use Rattle.koika_syntax.specs.declared.tree.Operand.{Operand}
use Rattle.koika_syntax.specs.declared.tree.UpdatedPart.{UpdatedPart}
use Rattle.koika_syntax.specs.declared.tree.Prefix.{Prefix}
use Rattle.koika_syntax.specs.declared.tree.Suffix.{Suffix}
use Rattle.koika_syntax.specs.declared.tree.TypeExpression.{TypeExpression}
use Rattle.koika_check.specs.Constructs.{FieldTyping, Typing, abort_at, array_in, call, comparison, extended, literal, member_in, named, packed, postfix, read_in, struct_in, typing, unary, unpacked, updated, written}
use Rattle.koika_check.specs.Expressions.{Armed, Fielded, Joining, ExpressionTyping, StatementTyping, arm_step, block_in, block_step, chain_in, expression_step, field_value_step, operand_step, statement_step}
use Rattle.koika_check.specs.inner.Expressions.{arm_in, expression_in, field_value_in, operand_in, statement_in}
use Rattle.koika_check.specs.Outcomes.{Gives, CheckResult, ◌>>=◌, found, in_turn, wrong}
use Rattle.koika_check.specs.Scopes.{Scope, called, register}
use Rattle.koika_check.specs.Types.{type_of}
use Rattle.koika_check.specs.Kinds.{number_named}
use Rattle.koika_check.specs.declared.things.Kind.TheVariants as kind
use Rattle.koika_check.proofs.Turns.{turn-map}

pub expression-Literal : (l : Literal) (s : Scope) → expression_in (variants.Literal l) s ≡ (Gives (literal l))
unfolding expression_in statement_in arm_in block_in field_value_in operand_in
expression-Literal l s =
    ap (λ e. expression_in e s) (sym (variants.rolls-Literal l)) ∙ ap (λ m. m s) (fold-roll-Expression ExpressionTyping StatementTyping Armed ExpressionTyping Fielded Joining expression_step statement_step arm_step block_step field_value_step operand_step (opened.Literal l))

pub expression-Name : (n : Name) (s : Scope) → expression_in (variants.Name n) s ≡ (named s n)
unfolding expression_in statement_in arm_in block_in field_value_in operand_in
expression-Name n s =
    ap (λ e. expression_in e s) (sym (variants.rolls-Name n)) ∙ ap (λ m. m s) (fold-roll-Expression ExpressionTyping StatementTyping Armed ExpressionTyping Fielded Joining expression_step statement_step arm_step block_step field_value_step operand_step (opened.Name n))

pub expression-Member : (of m : Name) (s : Scope) → expression_in (variants.Member of m) s ≡ (member_in s.design of m)
unfolding expression_in statement_in arm_in block_in field_value_in operand_in
expression-Member of m s =
    ap (λ e. expression_in e s) (sym (variants.rolls-Member of m)) ∙ ap (λ m. m s) (fold-roll-Expression ExpressionTyping StatementTyping Armed ExpressionTyping Fielded Joining expression_step statement_step arm_step block_step field_value_step operand_step (opened.Member of m))

pub expression-Unary : (prefixes : List Prefix) (operand : Expression) (s : Scope) → expression_in (views.Unary prefixes operand) s ≡ (expression_in operand s >>= unary prefixes)
unfolding expression_in statement_in arm_in block_in field_value_in operand_in
expression-Unary prefixes operand s =
    ap (λ e. expression_in e s) (sym (views.rolls-Unary prefixes operand)) ∙ ap (λ m. m s) (fold-roll-Expression ExpressionTyping StatementTyping Armed ExpressionTyping Fielded Joining expression_step statement_step arm_step block_step field_value_step operand_step (opened.Unary prefixes operand))

pub expression-Postfix : (primary : Expression) (suffixes : List Suffix) (s : Scope) → expression_in (views.Postfix primary suffixes) s ≡ (expression_in primary s >>= postfix s.design suffixes)
unfolding expression_in statement_in arm_in block_in field_value_in operand_in
expression-Postfix primary suffixes s =
    ap (λ e. expression_in e s) (sym (views.rolls-Postfix primary suffixes)) ∙ ap (λ m. m s) (fold-roll-Expression ExpressionTyping StatementTyping Armed ExpressionTyping Fielded Joining expression_step statement_step arm_step block_step field_value_step operand_step (opened.Postfix primary suffixes))

pub expression-Parentheses : (place : ℕ) (inside : Expression) (s : Scope) → expression_in (views.Parentheses place inside) s ≡ (expression_in inside s >>= λ inner. Gives (typing inner.part.of place inner.typed))
unfolding expression_in statement_in arm_in block_in field_value_in operand_in
expression-Parentheses place inside s =
    ap (λ e. expression_in e s) (sym (views.rolls-Parentheses place inside)) ∙ ap (λ m. m s) (fold-roll-Expression ExpressionTyping StatementTyping Armed ExpressionTyping Fielded Joining expression_step statement_step arm_step block_step field_value_step operand_step (opened.Parentheses place inside))

pub expression-Block : (b : Block) (s : Scope) → expression_in (views.Block b) s ≡ (block_in b s)
unfolding expression_in statement_in arm_in block_in field_value_in operand_in
expression-Block b s =
    ap (λ e. expression_in e s) (sym (views.rolls-Block b)) ∙ ap (λ m. m s) (fold-roll-Expression ExpressionTyping StatementTyping Armed ExpressionTyping Fielded Joining expression_step statement_step arm_step block_step field_value_step operand_step (opened.Block b))

pub expression-Read : (place port : ℕ) (r : Name) (s : Scope) → expression_in (variants.Read place port r) s ≡ (read_in s.design place port r)
unfolding expression_in statement_in arm_in block_in field_value_in operand_in
expression-Read place port r s =
    ap (λ e. expression_in e s) (sym (variants.rolls-Read place port r)) ∙ ap (λ m. m s) (fold-roll-Expression ExpressionTyping StatementTyping Armed ExpressionTyping Fielded Joining expression_step statement_step arm_step block_step field_value_step operand_step (opened.Read place port r))

pub expression-Write : (place port : ℕ) (r : Name) (value : Expression) (s : Scope) → expression_in (views.Write place port r value) s ≡ (register s.design r >>= λ number. expression_in value s >>= written s.design place port number)
unfolding expression_in statement_in arm_in block_in field_value_in operand_in
expression-Write place port r value s =
    ap (λ e. expression_in e s) (sym (views.rolls-Write place port r value)) ∙ ap (λ m. m s) (fold-roll-Expression ExpressionTyping StatementTyping Armed ExpressionTyping Fielded Joining expression_step statement_step arm_step block_step field_value_step operand_step (opened.Write place port r value))

pub expression-Abort : (place : ℕ) (s : Scope) → expression_in (variants.Abort place) s ≡ (Gives (abort_at place))
unfolding expression_in statement_in arm_in block_in field_value_in operand_in
expression-Abort place s =
    ap (λ e. expression_in e s) (sym (variants.rolls-Abort place)) ∙ ap (λ m. m s) (fold-roll-Expression ExpressionTyping StatementTyping Armed ExpressionTyping Fielded Joining expression_step statement_step arm_step block_step field_value_step operand_step (opened.Abort place))

pub expression-Pack : (place : ℕ) (value : Expression) (s : Scope) → expression_in (views.Pack place value) s ≡ (expression_in value s >>= packed s.design place)
unfolding expression_in statement_in arm_in block_in field_value_in operand_in
expression-Pack place value s =
    ap (λ e. expression_in e s) (sym (views.rolls-Pack place value)) ∙ ap (λ m. m s) (fold-roll-Expression ExpressionTyping StatementTyping Armed ExpressionTyping Fielded Joining expression_step statement_step arm_step block_step field_value_step operand_step (opened.Pack place value))

pub expression-Unpack : (place : ℕ) (to : TypeExpression) (value : Expression) (s : Scope) → expression_in (views.Unpack place to value) s ≡ (type_of s.design to >>= λ of. expression_in value s >>= unpacked s.design place of)
unfolding expression_in statement_in arm_in block_in field_value_in operand_in
expression-Unpack place to value s =
    ap (λ e. expression_in e s) (sym (views.rolls-Unpack place to value)) ∙ ap (λ m. m s) (fold-roll-Expression ExpressionTyping StatementTyping Armed ExpressionTyping Fielded Joining expression_step statement_step arm_step block_step field_value_step operand_step (opened.Unpack place to value))

pub expression-Extend : (place : ℕ) (extension : Extension) (value : Expression) (width : Number) (s : Scope) → expression_in (views.Extend place extension value width) s ≡ (expression_in value s >>= extended place extension width)
unfolding expression_in statement_in arm_in block_in field_value_in operand_in
expression-Extend place extension value width s =
    ap (λ e. expression_in e s) (sym (views.rolls-Extend place extension value width)) ∙ ap (λ m. m s) (fold-roll-Expression ExpressionTyping StatementTyping Armed ExpressionTyping Fielded Joining expression_step statement_step arm_step block_step field_value_step operand_step (opened.Extend place extension value width))

pub expression-Compare : (place : ℕ) (o : SignedComparison) (left right : Expression) (s : Scope) → expression_in (views.Compare place o left right) s ≡ (expression_in left s >>= λ one. expression_in right s >>= comparison place o one)
unfolding expression_in statement_in arm_in block_in field_value_in operand_in
expression-Compare place o left right s =
    ap (λ e. expression_in e s) (sym (views.rolls-Compare place o left right)) ∙ ap (λ m. m s) (fold-roll-Expression ExpressionTyping StatementTyping Armed ExpressionTyping Fielded Joining expression_step statement_step arm_step block_step field_value_step operand_step (opened.Compare place o left right))

pub expression-Update : (place : ℕ) (whole : Expression) (p : UpdatedPart) (value : Expression) (s : Scope) → expression_in (views.Update place whole p value) s ≡ (expression_in whole s >>= λ old. expression_in value s >>= updated s.design place p old)
unfolding expression_in statement_in arm_in block_in field_value_in operand_in
expression-Update place whole p value s =
    ap (λ e. expression_in e s) (sym (views.rolls-Update place whole p value)) ∙ ap (λ m. m s) (fold-roll-Expression ExpressionTyping StatementTyping Armed ExpressionTyping Fielded Joining expression_step statement_step arm_step block_step field_value_step operand_step (opened.Update place whole p value))

pub expression-Chain : (first : Expression) (rest : List Operand) (s : Scope) → expression_in (views.Chain first rest) s ≡ (expression_in first s >>= chain_in s (map operand_in rest))
unfolding expression_in statement_in arm_in block_in field_value_in operand_in
expression-Chain first rest s =
    ap (λ e. expression_in e s) (sym (views.rolls-Chain first rest)) ∙ ap (λ m. m s) (fold-roll-Expression ExpressionTyping StatementTyping Armed ExpressionTyping Fielded Joining expression_step statement_step arm_step block_step field_value_step operand_step (opened.Chain first rest))

pub expression-Call : (n : Name) (arguments : List Expression) (s : Scope) → expression_in (views.Call n arguments) s ≡ (called s.design n >>= λ c. in_turn (λ e. expression_in e s) arguments >>= call n c)
unfolding expression_in statement_in arm_in block_in field_value_in operand_in
expression-Call n arguments s =
    ap (λ e. expression_in e s) (sym (views.rolls-Call n arguments)) ∙ ap (λ m. m s) (fold-roll-Expression ExpressionTyping StatementTyping Armed ExpressionTyping Fielded Joining expression_step statement_step arm_step block_step field_value_step operand_step (opened.Call n arguments))
    ∙ ap (λ (o : CheckResult (List Typing)). called s.design n >>= λ c. o >>= call n c) (turn-map (λ (m : ExpressionTyping). m s) expression_in arguments)

pub expression-Array : (place : ℕ) (elements : List Expression) (s : Scope) → expression_in (views.Array place elements) s ≡ (in_turn (λ e. expression_in e s) elements >>= array_in s.design place)
unfolding expression_in statement_in arm_in block_in field_value_in operand_in
expression-Array place elements s =
    ap (λ e. expression_in e s) (sym (views.rolls-Array place elements)) ∙ ap (λ m. m s) (fold-roll-Expression ExpressionTyping StatementTyping Armed ExpressionTyping Fielded Joining expression_step statement_step arm_step block_step field_value_step operand_step (opened.Array place elements))
    ∙ ap (λ (o : CheckResult (List Typing)). o >>= array_in s.design place) (turn-map (λ (m : ExpressionTyping). m s) expression_in elements)

pub expression-Struct : (of : Name) (fields : List FieldValue) (close : ℕ) (s : Scope) → expression_in (views.Struct of fields close) s ≡ (found (number_named kind.Struct s.design of.text) (wrong UNKNOWN_NAME of.place) >>= λ number. in_turn (λ f. field_value_in f s) fields >>= struct_in s.design number of.place close)
unfolding expression_in statement_in arm_in block_in field_value_in operand_in
expression-Struct of fields close s =
    ap (λ e. expression_in e s) (sym (views.rolls-Struct of fields close)) ∙ ap (λ m. m s) (fold-roll-Expression ExpressionTyping StatementTyping Armed ExpressionTyping Fielded Joining expression_step statement_step arm_step block_step field_value_step operand_step (opened.Struct of fields close))
    ∙ ap (λ (o : CheckResult (List FieldTyping)). found (number_named kind.Struct s.design of.text) (wrong UNKNOWN_NAME of.place) >>= λ number. o >>= struct_in s.design number of.place close) (turn-map (λ (m : Fielded). m s) field_value_in fields)
