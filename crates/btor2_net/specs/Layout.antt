-- How the lines of a circuit are laid out: which sorts there are, what each state starts at and goes on by, and which lines
-- have symbols. BTOR2 (Niemetz et al., CAV 2018) has the lines; that they are laid out so is this project's own.
use Rattle.std.specs.Prelude.{◌≡◌, ◌≢◌, ℕ, ◌<◌, Bool, true, false, List, All, AllPairs, Contains, None, map, slice_get}
use Rattle.btor2_text.specs.declared.line.Line.{Line}
use Rattle.btor2_model.specs.Rules.{is_init, is_next, is_sort, is_state}
use Rattle.btor2_model.specs.Run.{ids_of, lines_by_rule}
use Rattle.btor2_model.specs.Scope.{id_at, argument_number}
use Rattle.btor2_model.specs.declared.rule.FormRule.{FormRule}
use Rattle.btor2_model.specs.declared.rule.FormRule.TheVariants as forms
use Rattle.btor2_net.specs.TidyLines.{is_any_constant}
use Rattle.btor2_net.specs.Translations.{AreCounted}

-- the width that a sort line declares
abbrev pub declared_width : Line → ℕ
declared_width line = argument_number (slice_get line.arguments 1)

-- sorts of two widths
abbrev pub DifferInWidth : Line → Line → Type 0
DifferInWidth a b = declared_width a ≢ declared_width b

-- the id of the state that an `init` or a `next` sets, and that of the value
abbrev pub state_set : Line → ℕ
state_set line = id_at line.arguments 1

-- the id of the value that an `init` or a `next` line sets
abbrev pub value_set : Line → ℕ
value_set line = id_at line.arguments 2

-- the value of an `init` is a constant, and its line is before the state's
pub record StartsBefore (lines : List Line) (line : Line) : Type 0 where
  pub constant : Contains (ids_of is_any_constant lines) (value_set line)
  pub before : value_set line < state_set line

-- the lines of what has a name
abbrev pub is_named : FormRule → Bool
is_named forms.Input = true
is_named forms.State = true
is_named forms.Output = true
is_named forms.Bad = true
is_named other = false

-- a line has a symbol
abbrev pub HasSymbol : Line → Type 0
HasSymbol line = line.symbol ≢ None

-- Lines are laid out: their ids are 1, 2, 3 and so on, and each width has one sort line at most. Each state has one `init`, in
-- the order of the states, by a constant before it, and one `next`, in the same order. Lines with names have symbols.
pub record AreLaidOut (lines : List Line) : Type 0 where
  pub ids : AreCounted lines
  pub sorts : AllPairs DifferInWidth (lines_by_rule is_sort lines)
  pub inits : map state_set (lines_by_rule is_init lines) ≡ ids_of is_state lines
  pub constants : All (StartsBefore lines) (lines_by_rule is_init lines)
  pub nexts : map state_set (lines_by_rule is_next lines) ≡ ids_of is_state lines
  pub symbols : All HasSymbol (lines_by_rule is_named lines)
