-- What lines declare for those after them: what each id stands for, and which states have an `init` and a `next`. BTOR2
-- (Niemetz et al., CAV 2018).
use Rattle.std.specs.Prelude.{ℕ, nat_eq, Bool, true, false, cond, ◌&&◌, ◌||◌, List, [], ◌∷◌, Option, None, Some, slice_get, unwrap_or}
use Rattle.std.specs.List.{list_any}
use Rattle.std.specs.Map.{update}
use Rattle.btor2_text.specs.Forms.{kinds_of}
use Rattle.btor2_text.specs.declared.kind.ArgumentKind.{ArgumentKind}
use Rattle.btor2_text.specs.declared.kind.ArgumentKind.TheVariants as kinds
use Rattle.btor2_text.specs.declared.line.Argument.{Argument}
use Rattle.btor2_text.specs.declared.line.Argument.TheVariants as arguments
use Rattle.btor2_text.specs.declared.line.Line.{Line}
use Rattle.btor2_model.specs.Rules.{rule_of, role_of, width_given, is_input, is_state, is_init, is_next}
use Rattle.btor2_model.specs.declared.meaning.IdMeaning.{IdMeaning}
use Rattle.btor2_model.specs.declared.meaning.Role.{Role}
use Rattle.btor2_model.specs.declared.meaning.Role.TheVariants as roles
use Rattle.btor2_model.specs.declared.rule.Measures.{Measures}
use Rattle.btor2_model.specs.declared.rule.FormRule.{FormRule}

-- what is declared so far
pub record DeclaredIds : Type 0 where
  pub meanings : ℕ → Option IdMeaning
  pub initialized : ℕ → Bool
  pub continued : ℕ → Bool

-- nothing
abbrev pub no_lines : DeclaredIds
no_lines = record { meanings = λ _. None; initialized = λ _. false; continued = λ _. false }

-- the id that an argument is, or 0, which is none
abbrev pub id_of : Option Argument → ℕ
id_of (Some (arguments.Id id)) = id
id_of other = 0

-- the id at a place of a line's arguments
abbrev pub id_at : List Argument → ℕ → ℕ
id_at given place = id_of (slice_get given place)

-- the number that an argument is, or 0
abbrev pub argument_number : Option Argument → ℕ
argument_number (Some (arguments.Number number)) = number
argument_number other = 0

-- the width of a sort; and that of a value, which a state is, too
abbrev pub sort_width : Role → ℕ → Option ℕ
sort_width roles.Sort width = Some width
sort_width other width = None

-- the width of what an id names, where it is a value
abbrev pub value_width : Role → ℕ → Option ℕ
value_width roles.Value width = Some width
value_width roles.State width = Some width
value_width other width = None

-- the width of what an id stands for, where it is of the kind that is wanted
abbrev pub width_wanted : ArgumentKind → Option IdMeaning → Option ℕ
width_wanted kind None = None
width_wanted kinds.Sort (Some meaning) = sort_width meaning.role meaning.width
width_wanted other (Some meaning) = value_width meaning.role meaning.width

-- an argument as a number: the width of what it names, or the number that it is; 0 for all else, and where there is
-- none
abbrev pub measure : DeclaredIds → Option ArgumentKind → Option Argument → Option ℕ
measure scope (Some kind) (Some (arguments.Id id)) = width_wanted kind (scope.meanings id)
measure scope (Some kinds.Number) (Some (arguments.Number number)) = Some number
measure scope kind other = Some 0

-- the width of the sort that an id names, or 0
abbrev pub sort_width_in : DeclaredIds → ℕ → ℕ
sort_width_in scope id = unwrap_or (width_wanted kinds.Sort (scope.meanings id)) 0

-- the four numbers, if there are all
abbrev pub measures_from : Option ℕ → Option ℕ → Option ℕ → Option ℕ → Option Measures
measures_from (Some first) (Some second) (Some third) (Some fourth) = Some (record { first = first; second = second; third = third; fourth = fourth })
measures_from first second third fourth = None

-- the widths and numbers of a line's arguments; none where one names a sort in place of a value or the other way round
abbrev pub measures : DeclaredIds → List ArgumentKind → List Argument → Option Measures
measures scope kinds given =
    measures_from
    (measure scope (slice_get kinds 0) (slice_get given 0))
    (measure scope (slice_get kinds 1) (slice_get given 1))
    (measure scope (slice_get kinds 2) (slice_get given 2))
    (measure scope (slice_get kinds 3) (slice_get given 3))

-- the measures of a line in a scope, if its arguments fit its keyword
abbrev pub measures_of : DeclaredIds → Line → Option Measures
measures_of scope line = measures scope (kinds_of line.keyword) line.arguments

-- what an id stands for depends on an input or a state
abbrev pub meaning_depends : Option IdMeaning → Bool
meaning_depends None = false
meaning_depends (Some meaning) = meaning.depends

-- whether an argument names what depends on an input or a state
abbrev pub argument_depends : DeclaredIds → Argument → Bool
argument_depends scope (arguments.Id id) = meaning_depends (scope.meanings id)
argument_depends scope other = false

-- the width that a line gives its id, or 0
abbrev pub width_or_none : FormRule → Option Measures → ℕ
width_or_none rule None = 0
width_or_none rule (Some m) = width_given rule m

-- what a line's id stands for. It depends on an input or a state where it is one, or where an operand does
abbrev pub meaning_of : DeclaredIds → Line → IdMeaning
meaning_of scope line =
    record {
      role = role_of (rule_of line.keyword);
      width = width_or_none (rule_of line.keyword) (measures_of scope line);
      depends = (is_input (rule_of line.keyword) || is_state (rule_of line.keyword)) || list_any (argument_depends scope) line.arguments;
    }

-- the states that had a value set, and this one where it is set now
abbrev pub set_now : Bool → (ℕ → Bool) → ℕ → ℕ → Bool
set_now now states state id = cond (now && nat_eq state id) true (states id)

-- what is declared after a line
abbrev pub behind : DeclaredIds → Line → DeclaredIds
behind scope line =
    record {
      meanings = update nat_eq scope.meanings line.id (Some (meaning_of scope line));
      initialized = set_now (is_init (rule_of line.keyword)) scope.initialized (id_at line.arguments 1);
      continued = set_now (is_next (rule_of line.keyword)) scope.continued (id_at line.arguments 1);
    }

-- and after some
abbrev pub behind_all : DeclaredIds → List Line → DeclaredIds
behind_all scope [] = scope
behind_all scope (line ∷ lines) = behind_all (behind scope line) lines
