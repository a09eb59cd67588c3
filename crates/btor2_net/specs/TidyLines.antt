-- When lines are tidy: no line of an operator can be left out or done without at a glance. BTOR2 (Niemetz et al., CAV
-- 2018) has the lines; what is tidy is this project's own.
use Rattle.std.specs.Prelude.{◌≡◌, ◌≢◌, ℕ, Bool, true, false, List, [], ◌∷◌, All, AllPairs, Contains, Option, None, Some}
use Rattle.std.specs.List.{filter_map}
use Rattle.btor2_text.specs.declared.keyword.Keyword.{Keyword}
use Rattle.btor2_text.specs.declared.keyword.Keyword.TheVariants as keywords
use Rattle.btor2_text.specs.declared.line.Argument.{Argument}
use Rattle.btor2_text.specs.declared.line.Argument.TheVariants as arguments
use Rattle.btor2_text.specs.declared.line.Line.{Line}
use Rattle.btor2_model.specs.Rules.{is_next, is_output}
use Rattle.btor2_model.specs.Run.{ids_of, lines_by_rule}
use Rattle.btor2_model.specs.Scope.{id_at}
use Rattle.btor2_model.specs.declared.rule.FormRule.{FormRule}
use Rattle.btor2_model.specs.declared.rule.FormRule.TheVariants as forms

-- the line is that of an operator
abbrev pub is_operator : FormRule → Bool
is_operator forms.Unary = true
is_operator forms.Reduced = true
is_operator forms.Binary = true
is_operator forms.Compared = true
is_operator forms.Boolean = true
is_operator forms.Joined = true
is_operator forms.Sliced = true
is_operator forms.Extended = true
is_operator forms.Chosen = true
is_operator other = false

-- the line is that of a constant, by its name or by its digits
abbrev pub is_any_constant : FormRule → Bool
is_any_constant forms.Constant = true
is_any_constant (forms.Numeral base) = true
is_any_constant other = false

-- the ids among the arguments of an operator's line that are after its sort
abbrev pub id_given : Argument → Option ℕ
id_given (arguments.Id id) = Some id
id_given other = None

-- the ids that a line names after its sort
abbrev pub operand_ids : List Argument → List ℕ
operand_ids [] = []
operand_ids (sort ∷ others) = filter_map id_given others

-- lines that differ in more than their ids and their places in the text
abbrev pub Differ : Line → Line → Type 0
Differ a b = ¬ ((a.keyword ≡ b.keyword) × (a.arguments ≡ b.arguments) × (a.symbol ≡ b.symbol))

-- an id serves a `next` or an output: it is the value of one, or an operand of an operator's line that does
pub data IdServes (lines : List Line) : ℕ → Type 0 where
  next : (line : Line) → Contains (lines_by_rule is_next lines) line → IdServes lines (id_at line.arguments 2)
  output : (line : Line) → Contains (lines_by_rule is_output lines) line → IdServes lines (id_at line.arguments 0)
  operand : (id : ℕ) (user : Line) → Contains (lines_by_rule is_operator lines) user → Contains (operand_ids user.arguments) id → IdServes lines user.id → IdServes lines id

-- a line has an operand that is no constant
abbrev pub IsOpenLine : List Line → Line → Type 0
IsOpenLine lines line = ¬ All (Contains (ids_of is_any_constant lines)) (operand_ids line.arguments)

-- a line is none of `ite` with equal choices, `and` and `or` with equal operands, and `not` of a `not`
abbrev pub IsNeededBy : List Line → Keyword → List Argument → Type 0
IsNeededBy lines keywords.Ite given = id_at given 2 ≢ id_at given 3
IsNeededBy lines keywords.And given = id_at given 1 ≢ id_at given 2
IsNeededBy lines keywords.Or given = id_at given 1 ≢ id_at given 2
IsNeededBy lines keywords.Not given = (other : Line) → Contains lines other → other.keyword ≡ keywords.Not → other.id ≢ id_at given 1
IsNeededBy lines other given = Unit {0}

-- a line that an output, a state or another needed line names
abbrev pub IsNeededLine : List Line → Line → Type 0
IsNeededLine lines line = IsNeededBy lines line.keyword line.arguments

-- lines are tidy: no two lines of operators agree in all but their ids, each serves, none has constants alone as
-- operands, and each is needed
pub record AreTidy (lines : List Line) : Type 0 where
  pub distinct : AllPairs Differ (lines_by_rule is_operator lines)
  pub serve : All (λ (line : Line). IdServes lines line.id) (lines_by_rule is_operator lines)
  pub are_open : All (IsOpenLine lines) (lines_by_rule is_operator lines)
  pub needed : All (IsNeededLine lines) lines
