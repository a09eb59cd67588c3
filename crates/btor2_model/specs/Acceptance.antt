-- Which lines are accepted after earlier ones, which fault the others have, and which texts are accepted. BTOR2
-- (Niemetz et al., CAV 2018); that the value of an `init` depends on no input and no state, and that each state has a
-- `next`, are this project's own conditions.
use Rattle.std.specs.Prelude.{◌≡◌, ℕ, ◌^◌, nat_lt, Bool, true, false, not, ◌&&◌, List, [], ◌∷◌, Option, None, Some, option_map, is_some, slice_get}
use Rattle.std.specs.List.{find, list_all}
use Rattle.std.specs.Option.{option_or}
use Rattle.std.specs.Str.Parse.{digits_value}
use Rattle.kw_base.specs.Fault.{fault_at}
use Rattle.kw_base.specs.declared.fault.Fault.{Fault}
use Rattle.btor2_text.specs.Forms.{kinds_of, radix_of}
use Rattle.btor2_text.specs.Printable.{ArePrintable}
use Rattle.btor2_text.specs.Reading.{line_place}
use Rattle.btor2_text.specs.declared.keyword.Keyword.{Keyword}
use Rattle.btor2_text.specs.declared.line.Argument.{Argument}
use Rattle.btor2_text.specs.declared.line.Argument.TheVariants as arguments
use Rattle.btor2_text.specs.declared.line.Line.{Line}
use Rattle.btor2_model.specs.Rules.{rule_of, is_state, widths_agree, bounds_fit}
use Rattle.btor2_model.specs.Scope.{DeclaredIds, no_lines, id_at, sort_width_in, measures, measures_of, meaning_depends, behind, behind_all}
use Rattle.btor2_model.specs.declared.meaning.IdMeaning.{IdMeaning}
use Rattle.btor2_model.specs.declared.meaning.Role.{Role}
use Rattle.btor2_model.specs.declared.meaning.Role.TheVariants as roles
use Rattle.btor2_model.specs.declared.rule.Measures.{Measures}
use Rattle.btor2_model.specs.declared.rule.FormRule.{FormRule}
use Rattle.btor2_model.specs.declared.rule.FormRule.TheVariants as forms

-- no earlier line has the id
abbrev pub is_fresh : DeclaredIds → ℕ → Bool
is_fresh scope id = not (is_some (scope.meanings id))

-- an id that an argument is, is on an earlier line
abbrev pub is_known : DeclaredIds → Argument → Bool
is_known scope (arguments.Id id) = is_some (scope.meanings id)
is_known scope other = true

-- what an id stands for is a state
abbrev pub means_state : Role → Bool
means_state roles.State = true
means_state other = false

-- an id names a state
abbrev pub stands_for_state : Option IdMeaning → Bool
stands_for_state None = false
stands_for_state (Some meaning) = means_state meaning.role

-- an `init` and a `next` name a state
abbrev pub names_state : FormRule → DeclaredIds → List Argument → Bool
names_state forms.Init scope given = stands_for_state (scope.meanings (id_at given 1))
names_state forms.Next scope given = stands_for_state (scope.meanings (id_at given 1))
names_state other scope given = true

-- a test of a line's widths and numbers, which it has
abbrev pub passes : (FormRule → Measures → Bool) → FormRule → Option Measures → Bool
passes test rule None = false
passes test rule (Some m) = test rule m

-- sorts are where sorts are wanted and values where values are, and widths are as the form asks
abbrev pub agree : DeclaredIds → Keyword → List Argument → Bool
agree scope keyword given = names_state (rule_of keyword) scope given && passes widths_agree (rule_of keyword) (measures scope (kinds_of keyword) given)

-- the state has no `init`, or no `next`, so far
abbrev pub sets_first : FormRule → DeclaredIds → List Argument → Bool
sets_first forms.Init scope given = not (scope.initialized (id_at given 1))
sets_first forms.Next scope given = not (scope.continued (id_at given 1))
sets_first other scope given = true

-- the digits that an argument is
abbrev pub digits_of : Option Argument → List ℕ
digits_of (Some (arguments.Numeral digits)) = digits
digits_of other = []

-- the numeral of a constant is below 2 to its width
abbrev pub numeral_fits : FormRule → DeclaredIds → List Argument → Bool
numeral_fits (forms.Numeral base) scope given = nat_lt (digits_value (radix_of base) (digits_of (slice_get given 1))) (2 ^ sort_width_in scope (id_at given 0))
numeral_fits other scope given = true

-- the value of an `init` depends on no input and no state
abbrev pub init_is_fixed : FormRule → DeclaredIds → List Argument → Bool
init_is_fixed forms.Init scope given = not (meaning_depends (scope.meanings (id_at given 2)))
init_is_fixed other scope given = true

-- what is asked of a line after what is declared, each with the number of its fault
abbrev pub conditions : DeclaredIds → Line → List (ℕ × Bool)
conditions scope line =
    let rule : FormRule = rule_of line.keyword in
    (51, is_fresh scope line.id)
    ∷ (52, list_all (is_known scope) line.arguments)
    ∷ (53, agree scope line.keyword line.arguments)
    ∷ (55, passes bounds_fit rule (measures_of scope line))
    ∷ (57, sets_first rule scope line.arguments)
    ∷ (58, numeral_fits rule scope line.arguments)
    ∷ (59, init_is_fixed rule scope line.arguments)
    ∷ []

-- the number of the first condition that a line doesn't meet
abbrev pub line_fault : DeclaredIds → Line → Option ℕ
line_fault scope line = option_map (λ c. c.0) (find (λ c. not c.1) (conditions scope line))

-- the fault of a number at a line
abbrev pub fault_in : Line → ℕ → Fault
fault_in line number = fault_at number (line_place line.number)

-- the fault of the first line that has one, after what is declared
abbrev pub lines_fault : DeclaredIds → List Line → Option Fault
lines_fault scope [] = None
lines_fault scope (line ∷ lines) = option_or (option_map (fault_in line) (line_fault scope line)) (lines_fault (behind scope line) lines)

-- a state without a `next`
abbrev pub lacks_next : DeclaredIds → Line → Bool
lacks_next scope line = is_state (rule_of line.keyword) && not (scope.continued line.id)

-- the fault of the first state without a `next`
abbrev pub states_fault : DeclaredIds → List Line → Option Fault
states_fault scope lines = option_map (λ line. fault_in line 56) (find (lacks_next scope) lines)

-- the first fault of a text: of its lines, or else of its states
abbrev pub first_fault : List Line → Option Fault
first_fault lines = option_or (lines_fault no_lines lines) (states_fault (behind_all no_lines lines) lines)

-- a text is accepted: each line is of its form, and there is no fault
pub record IsAccepted (lines : List Line) : Type 0 where
  pub forms : ArePrintable lines
  pub no_fault : first_fault lines ≡ None
