-- The places of a tree, which are the offsets of its tokens, and a tree with other places: each place is replaced by
-- what `at` makes of it, and nothing else changes. Two trees are the same design, wherever it is written, where they
-- are equal with 0 for each place.
use Rattle.std.specs.Prelude.{◌≡◌, ℕ, Option, None, Some, map}
use Rattle.koika_syntax.specs.declared.tree.Arm.{Arm, Arm-F, roll-Arm}
use Rattle.koika_syntax.specs.declared.tree.Block.{Block, Block-F, fold-Block, roll-Block}
use Rattle.koika_syntax.specs.declared.tree.Choice.{Choice, Choice-F, roll-Choice}
use Rattle.koika_syntax.specs.declared.tree.Constant.{Constant, Constant-F, fold-Constant, roll-Constant}
use Rattle.koika_syntax.specs.declared.tree.Constant.TheOpen as constant
use Rattle.koika_syntax.specs.declared.tree.ConstantField.{ConstantField, ConstantField-F, roll-ConstantField}
use Rattle.koika_syntax.specs.declared.tree.Declaration.{Declaration}
use Rattle.koika_syntax.specs.declared.tree.Declaration.TheVariants as declarations
use Rattle.koika_syntax.specs.declared.tree.EnumMember.{EnumMember}
use Rattle.koika_syntax.specs.declared.tree.Expression.{Expression, Expression-F, roll-Expression}
use Rattle.koika_syntax.specs.declared.tree.Expression.TheOpen as expression
use Rattle.koika_syntax.specs.declared.tree.Field.{Field}
use Rattle.koika_syntax.specs.declared.tree.FieldValue.{FieldValue, FieldValue-F, roll-FieldValue}
use Rattle.koika_syntax.specs.declared.tree.Literal.{Literal}
use Rattle.koika_syntax.specs.declared.tree.Name.{Name}
use Rattle.koika_syntax.specs.declared.tree.Number.{Number}
use Rattle.koika_syntax.specs.declared.tree.Operand.{Operand, Operand-F, roll-Operand}
use Rattle.koika_syntax.specs.declared.tree.Prefix.{Prefix}
use Rattle.koika_syntax.specs.declared.tree.Scheduler.{Scheduler, Scheduler-F, fold-Scheduler, roll-Scheduler}
use Rattle.koika_syntax.specs.declared.tree.Statement.{Statement, Statement-F, roll-Statement}
use Rattle.koika_syntax.specs.declared.tree.Suffix.{Suffix}
use Rattle.koika_syntax.specs.declared.tree.Suffix.TheVariants as suffixes
use Rattle.koika_syntax.specs.declared.tree.Tree.{Tree}
use Rattle.koika_syntax.specs.declared.tree.TypeExpression.{TypeExpression, TypeExpression-F, fold-TypeExpression, roll-TypeExpression}
use Rattle.koika_syntax.specs.declared.tree.TypeExpression.TheOpen as type_expression
use Rattle.koika_syntax.specs.declared.tree.UpdatedPart.{UpdatedPart}
use Rattle.koika_syntax.specs.declared.tree.UpdatedPart.TheVariants as parts
use Rattle.koika_syntax.specs.declared.tree.Width.{Width}

module _ (at : ℕ → ℕ) where
  -- a name, a number, a literal and a width
  abbrev pub moved_name : Name → Name
  moved_name n = record n { place = at n.place }

  -- a number
  abbrev pub moved_number : Number → Number
  moved_number n = record n { place = at n.place }

  -- a literal
  abbrev pub moved_literal : Literal → Literal
  moved_literal l = record l { place = at l.place }

  -- `bits` and a number
  abbrev pub moved_width : Width → Width
  moved_width w = record { place = at w.place; number = moved_number w.number }

  -- a type, whose own element is moved before
  abbrev pub type_moved : TypeExpression-F TypeExpression → TypeExpression
  type_moved (type_expression.Bits width) = roll-TypeExpression (type_expression.Bits (moved_width width))
  type_moved (type_expression.Named n) = roll-TypeExpression (type_expression.Named (moved_name n))
  type_moved (type_expression.Array place element size) = roll-TypeExpression (type_expression.Array (at place) element (moved_number size))

  -- a type
  unfoldable pub moved_type : TypeExpression → TypeExpression
  moved_type = fold-TypeExpression TypeExpression type_moved

  -- a constant, whose parts are moved before
  abbrev pub constant_moved : Constant-F Constant ConstantField → Constant
  constant_moved (constant.Literal l) = roll-Constant (constant.Literal (moved_literal l))
  constant_moved (constant.Member of member) = roll-Constant (constant.Member (moved_name of) (moved_name member))
  constant_moved (constant.Struct of fields close) = roll-Constant (constant.Struct (moved_name of) fields (at close))
  constant_moved (constant.Array place elements) = roll-Constant (constant.Array (at place) elements)

  -- a field of a constant
  abbrev pub constant_field_moved : ConstantField-F Constant ConstantField → ConstantField
  constant_field_moved field = roll-ConstantField (record field { name = moved_name field.name })

  -- a constant
  unfoldable pub moved_constant : Constant → Constant
  moved_constant = fold-Constant Constant ConstantField constant_moved constant_field_moved

  -- an operator before an operand
  abbrev pub moved_prefix : Prefix → Prefix
  moved_prefix prefix = record prefix { place = at prefix.place }

  -- what takes a part of a value
  abbrev pub moved_suffix : Suffix → Suffix
  moved_suffix (suffixes.Field n) = suffixes.Field (moved_name n)
  moved_suffix (suffixes.Index index) = suffixes.Index (moved_number index)
  moved_suffix (suffixes.Slice high low) = suffixes.Slice (moved_number high) (moved_number low)

  -- the part that an update replaces
  abbrev pub moved_part : UpdatedPart → UpdatedPart
  moved_part (parts.Field n) = parts.Field (moved_name n)
  moved_part (parts.Index index) = parts.Index (moved_number index)

  -- an expression, whose parts are moved before
  abbrev pub expression_moved : Expression-F Expression Statement Arm Block FieldValue Operand → Expression
  expression_moved (expression.If arms otherwise) = roll-Expression (expression.If arms otherwise)
  expression_moved (expression.Chain first rest) = roll-Expression (expression.Chain first rest)
  expression_moved (expression.Unary prefixes operand) = roll-Expression (expression.Unary (map moved_prefix prefixes) operand)
  expression_moved (expression.Postfix primary suffixes) = roll-Expression (expression.Postfix primary (map moved_suffix suffixes))
  expression_moved (expression.Literal l) = roll-Expression (expression.Literal (moved_literal l))
  expression_moved (expression.Name n) = roll-Expression (expression.Name (moved_name n))
  expression_moved (expression.Call called arguments) = roll-Expression (expression.Call (moved_name called) arguments)
  expression_moved (expression.Member of member) = roll-Expression (expression.Member (moved_name of) (moved_name member))
  expression_moved (expression.Struct of fields close) = roll-Expression (expression.Struct (moved_name of) fields (at close))
  expression_moved (expression.Array place elements) = roll-Expression (expression.Array (at place) elements)
  expression_moved (expression.Parentheses place inside) = roll-Expression (expression.Parentheses (at place) inside)
  expression_moved (expression.Block block) = roll-Expression (expression.Block block)
  expression_moved (expression.Read place port register) = roll-Expression (expression.Read (at place) port (moved_name register))
  expression_moved (expression.Write place port register value) = roll-Expression (expression.Write (at place) port (moved_name register) value)
  expression_moved (expression.Abort place) = roll-Expression (expression.Abort (at place))
  expression_moved (expression.Pack place value) = roll-Expression (expression.Pack (at place) value)
  expression_moved (expression.Unpack place to value) = roll-Expression (expression.Unpack (at place) (moved_type to) value)
  expression_moved (expression.Extend place extension value width) = roll-Expression (expression.Extend (at place) extension value (moved_number width))
  expression_moved (expression.Compare place comparison left right) = roll-Expression (expression.Compare (at place) comparison left right)
  expression_moved (expression.Update place whole part value) = roll-Expression (expression.Update (at place) whole (moved_part part) value)

  -- a statement
  abbrev pub statement_moved : Statement-F Expression Statement Arm Block FieldValue Operand → Statement
  statement_moved (expression.Let n value) = roll-Statement (expression.Let (moved_name n) value)
  statement_moved (expression.Do value) = roll-Statement (expression.Do value)

  -- an arm of an `if`
  abbrev pub arm_moved : Arm-F Expression Statement Arm Block FieldValue Operand → Arm
  arm_moved arm = roll-Arm (record arm { place = at arm.place })

  -- a block
  abbrev pub block_moved : Block-F Expression Statement Arm Block FieldValue Operand → Block
  block_moved block = roll-Block (record block { place = at block.place })

  -- a field of a struct and its value
  abbrev pub field_value_moved : FieldValue-F Expression Statement Arm Block FieldValue Operand → FieldValue
  field_value_moved field = roll-FieldValue (record field { name = moved_name field.name })

  -- an operator and its operand, which have no place of their own
  abbrev pub operand_moved : Operand-F Expression Statement Arm Block FieldValue Operand → Operand
  operand_moved operand = roll-Operand operand

  -- a block and all that is in it
  unfoldable pub moved_block : Block → Block
  moved_block = fold-Block Expression Statement Arm Block FieldValue Operand expression_moved statement_moved arm_moved block_moved field_value_moved operand_moved

  -- a member of an enum
  abbrev pub moved_member : EnumMember → EnumMember
  moved_member member = record { name = moved_name member.name; value = moved_literal member.value }

  -- a field of a struct, or a parameter
  abbrev pub moved_field : Field → Field
  moved_field field = record { name = moved_name field.name; of = moved_type field.of }

  -- the result of a function
  abbrev pub moved_result : Option TypeExpression → Option TypeExpression
  moved_result None = None
  moved_result (Some of) = Some (moved_type of)

  -- a declaration
  abbrev pub moved_declaration : Declaration → Declaration
  moved_declaration (declarations.Enum n width members) = declarations.Enum (moved_name n) (moved_width width) (map moved_member members)
  moved_declaration (declarations.Struct n fields) = declarations.Struct (moved_name n) (map moved_field fields)
  moved_declaration (declarations.Register n of first) = declarations.Register (moved_name n) (moved_type of) (moved_constant first)
  moved_declaration (declarations.Input n of) = declarations.Input (moved_name n) (moved_type of)
  moved_declaration (declarations.Table n input output entries) =
      declarations.Table (moved_name n) (moved_width input) (moved_width output) (map moved_literal entries)
  moved_declaration (declarations.Host n input output) = declarations.Host (moved_name n) (moved_width input) (moved_width output)
  moved_declaration (declarations.Function n parameters result body) =
      declarations.Function (moved_name n) (map moved_field parameters) (moved_result result) (moved_block body)
  moved_declaration (declarations.Rule n body) = declarations.Rule (moved_name n) (moved_block body)
  moved_declaration (declarations.Assert n) = declarations.Assert (moved_name n)

  -- a `try`, whose schedulers are moved before
  abbrev pub choice_moved : Choice-F Choice Scheduler → Choice
  choice_moved choice = roll-Choice (record choice { rule = moved_name choice.rule })

  -- the rules of a scheduler, and its `try`
  abbrev pub scheduler_moved : Scheduler-F Choice Scheduler → Scheduler
  scheduler_moved scheduler = roll-Scheduler (record scheduler { rules = map moved_name scheduler.rules })

  -- a scheduler
  unfoldable pub moved_scheduler : Scheduler → Scheduler
  moved_scheduler = fold-Scheduler Choice Scheduler choice_moved scheduler_moved

  -- a whole design
  abbrev pub moved : Tree → Tree
  moved tree = record {
    declarations = map moved_declaration tree.declarations;
    schedule = at tree.schedule;
    scheduler = moved_scheduler tree.scheduler;
  }

-- the same design, wherever it is written
abbrev pub SameUpToPlaces : Tree → Tree → Type 0
SameUpToPlaces t u = moved (λ place. 0) t ≡ moved (λ place. 0) u
