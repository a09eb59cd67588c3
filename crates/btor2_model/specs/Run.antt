-- The run of an accepted text: the values of its lines at a step, and its states step by step. BTOR2 (Niemetz et al.,
-- CAV 2018); that a state without `init` starts at 0 is this project's own.
use Rattle.std.specs.Prelude.{ℕ, zero, suc, ◌+◌, ◌-◌, ◌^◌, ◌==◌, nat_eq, Bool, false, if◌then◌else◌, List, [], ◌∷◌, ◌++◌, Option, map, filter, option_map, unwrap_or}
use Rattle.std.specs.List.{find, zip}
use Rattle.std.specs.Map.{lookup}
use Rattle.std.specs.Str.Parse.{digits_value}
use Rattle.kw_bits.specs.BitVector.{BitVector, zero_at}
use Rattle.kw_bits.specs.Operators as vector
use Rattle.btor2_text.specs.Forms.{radix_of}
use Rattle.btor2_text.specs.declared.keyword.Keyword.{Keyword}
use Rattle.btor2_text.specs.declared.keyword.Keyword.TheVariants as keywords
use Rattle.btor2_text.specs.declared.kind.Base.{Base}
use Rattle.btor2_text.specs.declared.kind.Base.TheVariants as bases
use Rattle.btor2_text.specs.declared.line.Argument.{Argument}
use Rattle.btor2_text.specs.declared.line.Argument.TheVariants as arguments
use Rattle.btor2_text.specs.declared.line.Line.{Line}
use Rattle.one_rule.specs.Run.{InputsByCycle}
use Rattle.one_rule.specs.declared.rows.Row.{Row}
use Rattle.btor2_model.specs.Rules.{rule_of, is_input, is_state, is_init, is_next, is_output}
use Rattle.btor2_model.specs.Scope.{DeclaredIds, no_lines, id_at, sort_width_in, behind, behind_all}
use Rattle.btor2_model.specs.declared.meaning.IdMeaning.{IdMeaning}
use Rattle.btor2_model.specs.declared.rule.FormRule.{FormRule}
use Rattle.btor2_model.specs.declared.rule.FormRule.TheVariants as forms

-- values by ids
abbrev pub Values : Type 0
Values = ℕ → BitVector

-- no bits: used as a value where there is none
abbrev pub no_bits : BitVector
no_bits = zero_at 0

-- the operators of one operand
abbrev pub unary : Keyword → BitVector → BitVector
unary keywords.Not a = vector.not a
unary keywords.Neg a = vector.neg a
unary keywords.Inc a = vector.add a (record { width = a.width; number = 1 })
unary keywords.Dec a = vector.sub a (record { width = a.width; number = 1 })
unary keywords.Redand a = vector.redand a
unary keywords.Redor a = vector.redor a
unary keywords.Redxor a = vector.redxor a
unary other a = no_bits

-- the operators of two operands
abbrev pub binary : Keyword → BitVector → BitVector → BitVector
binary keywords.And a b = vector.and a b
binary keywords.Or a b = vector.or a b
binary keywords.Xor a b = vector.xor a b
binary keywords.Nand a b = vector.not (vector.and a b)
binary keywords.Nor a b = vector.not (vector.or a b)
binary keywords.Xnor a b = vector.not (vector.xor a b)
binary keywords.Add a b = vector.add a b
binary keywords.Sub a b = vector.sub a b
binary keywords.Mul a b = vector.mul a b
binary keywords.Sll a b = vector.sll a b
binary keywords.Srl a b = vector.srl a b
binary keywords.Sra a b = vector.sra a b
binary keywords.Eq a b = vector.eq_bits a b
binary keywords.Neq a b = vector.not (vector.eq_bits a b)
binary keywords.Ult a b = vector.ult a b
binary keywords.Ulte a b = vector.ulte a b
binary keywords.Ugt a b = vector.ult b a
binary keywords.Ugte a b = vector.ulte b a
binary keywords.Slt a b = vector.slt a b
binary keywords.Slte a b = vector.slte a b
binary keywords.Sgt a b = vector.slt b a
binary keywords.Sgte a b = vector.slte b a
binary keywords.Iff a b = vector.eq_bits a b
binary keywords.Implies a b = vector.or (vector.not a) b
binary keywords.Concat a b = vector.concat a b
binary other a b = no_bits

-- the constants that keywords name, at a width
abbrev pub constant : Keyword → ℕ → BitVector
constant keywords.Zero width = record { width = width; number = 0 }
constant keywords.One width = record { width = width; number = 1 }
constant keywords.Ones width = record { width = width; number = 2 ^ width - 1 }
constant other width = no_bits

-- the base of a constant's numeral
abbrev pub base_of : Keyword → Base
base_of keywords.Const = bases.Binary
base_of keywords.Consth = bases.Hexadecimal
base_of other = bases.Decimal

-- an operand with this many bits more
abbrev pub extended : Keyword → BitVector → ℕ → BitVector
extended keywords.Sext a more = vector.sext a (a.width + more)
extended other a more = vector.zext a (a.width + more)

-- the value that an operator or a constant gives, after what is declared, by the values of earlier lines
abbrev pub operator_value : DeclaredIds → Values → Keyword → List Argument → BitVector
operator_value scope values keyword (arguments.Id sort ∷ []) = constant keyword (sort_width_in scope sort)
operator_value scope values keyword (arguments.Id sort ∷ arguments.Numeral digits ∷ []) =
    record { width = sort_width_in scope sort; number = digits_value (radix_of (base_of keyword)) digits }
operator_value scope values keyword (arguments.Id sort ∷ arguments.Id a ∷ []) = unary keyword (values a)
operator_value scope values keyword (arguments.Id sort ∷ arguments.Id a ∷ arguments.Id b ∷ []) = binary keyword (values a) (values b)
operator_value scope values keyword (arguments.Id sort ∷ arguments.Id a ∷ arguments.Number more ∷ []) = extended keyword (values a) more
operator_value scope values keyword (arguments.Id sort ∷ arguments.Id a ∷ arguments.Number upper ∷ arguments.Number lower ∷ []) = vector.slice (values a) upper lower
operator_value scope values keyword (arguments.Id sort ∷ arguments.Id c ∷ arguments.Id a ∷ arguments.Id b ∷ []) =
    if nat_eq (values c).number 1 then values a else values b
operator_value scope values keyword other = no_bits

-- what the inputs and the states have at a step, by their ids
pub record StepValues : Type 0 where
  pub inputs : Values
  pub states : Values

-- the value of a line at a step
abbrev pub value_by : FormRule → StepValues → DeclaredIds → Values → Line → BitVector
value_by forms.Input step scope values line = step.inputs line.id
value_by forms.State step scope values line = step.states line.id
value_by other step scope values line = operator_value scope values line.keyword line.arguments

-- the values at a step, after what is declared and has a value so far
abbrev pub values_behind : StepValues → DeclaredIds → Values → List Line → Values
values_behind step scope values [] = values
values_behind step scope values (line ∷ lines) =
    values_behind step (behind scope line) (λ id. if nat_eq line.id id then value_by (rule_of line.keyword) step scope values line else values id) lines

-- the values of a text's lines at a step
abbrev pub values_at : List Line → StepValues → Values
values_at lines step = values_behind step no_lines (λ _. no_bits) lines

-- a text's lines of a rule
abbrev pub lines_by_rule : (FormRule → Bool) → List Line → List Line
lines_by_rule test lines = filter (λ line. test (rule_of line.keyword)) lines

-- their ids
abbrev pub ids_of : (FormRule → Bool) → List Line → List ℕ
ids_of test lines = map (λ line. line.id) (lines_by_rule test lines)

-- the inputs' values, given in the order of their lines
abbrev pub input_values : List Line → List BitVector → Values
input_values lines given id = unwrap_or (lookup (nat_eq id) (zip (ids_of is_input lines) given)) no_bits

-- the value that a line of the rule sets a state to, if there is one
abbrev pub value_set : (FormRule → Bool) → List Line → Values → ℕ → Option BitVector
value_set test lines values state = option_map (λ line. values (id_at line.arguments 2)) (find (λ line. nat_eq state (id_at line.arguments 1)) (lines_by_rule test lines))

-- the width of what an id stands for in a text
abbrev pub width_in : List Line → ℕ → ℕ
width_in lines id = unwrap_or (option_map (λ (meaning : IdMeaning). meaning.width) ((behind_all no_lines lines).meanings id)) 0

-- the first values of states: what their `init` has, which depends on no input and no state, or else 0
abbrev pub first_state_values : List Line → Values
first_state_values lines state =
    unwrap_or (value_set is_init lines (values_at lines (record { inputs = λ _. no_bits; states = λ _. no_bits })) state) (zero_at (width_in lines state))

-- the values of states after a step: what their `next` has in it
abbrev pub next_values : List Line → Values → Values
next_values lines values state = unwrap_or (value_set is_next lines values state) no_bits

-- the values in a step in which the inputs and the states have these
abbrev pub values_with : List Line → List BitVector → Values → Values
values_with lines inputs states = values_at lines (record { inputs = input_values lines inputs; states = states })

-- the values of the states at a step, where step k takes the inputs of cycle k + 1
abbrev pub states_at : List Line → InputsByCycle → ℕ → Values
states_at lines inputs zero = first_state_values lines
states_at lines inputs (suc step) = next_values lines (values_with lines (inputs (step + 1)) (states_at lines inputs step))

-- the values of all lines at a step
abbrev pub values_in : List Line → InputsByCycle → ℕ → Values
values_in lines inputs step = values_with lines (inputs (step + 1)) (states_at lines inputs step)

-- the ids that outputs of one bit name
abbrev pub flag_ids : List Line → List ℕ
flag_ids lines = filter (λ id. width_in lines id == 1) (map (λ line. id_at line.arguments 0) (lines_by_rule is_output lines))

-- the row before all steps: the states, and no flag
abbrev pub first_row : List Line → Row
first_row lines = record { regs = map (first_state_values lines) (ids_of is_state lines); fired = map (λ _. false) (flag_ids lines) }

-- the row after a step: the states then, and the flags in it
abbrev pub row_behind : List Line → InputsByCycle → ℕ → Row
row_behind lines inputs step =
    record {
      regs = map (states_at lines inputs (step + 1)) (ids_of is_state lines);
      fired = map (λ id. (values_in lines inputs step id).number == 1) (flag_ids lines);
    }

-- the run of a text for n cycles
abbrev pub rows_behind : List Line → InputsByCycle → ℕ → List Row
rows_behind lines inputs zero = []
rows_behind lines inputs (suc steps) = rows_behind lines inputs steps ++ row_behind lines inputs steps ∷ []

-- the run of a text: a row before the first cycle, and one for each cycle
abbrev pub run_of : List Line → InputsByCycle → ℕ → List Row
run_of lines inputs n = first_row lines ∷ rows_behind lines inputs n
