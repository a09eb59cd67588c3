-- What private functions alone cite of this crate's `SlowRun`.
use Rattle.std.specs.BTreeMap as map
use Rattle.std.specs.List.{zip}
use Rattle.std.specs.Map.{lookup}
use Rattle.std.specs.Ordering.{nat_cmp}
use Rattle.std.specs.Prelude.{◌≡◌, ℕ, ◌+◌, ◌-◌, ◌^◌, ◌<◌, ◌≤◌, ◌==◌, nat_eq, Bool, true, false, ◌&&◌, List, [], ◌∷◌, All, Option, None, Some, option_map, unwrap_or}
use Rattle.std.specs.Str.Parse.{digits_value}
use Rattle.kw_bits.specs.BitVector.{BitVector}
use Rattle.btor2_text.specs.Forms.{radix_of}
use Rattle.btor2_text.specs.declared.keyword.Keyword.{Keyword}
use Rattle.btor2_text.specs.declared.kind.ArgumentKind.TheVariants as kinds
use Rattle.btor2_text.specs.declared.line.Argument.TheVariants as arguments
use Rattle.btor2_text.specs.declared.line.Argument.{Argument}
use Rattle.btor2_text.specs.declared.line.Line.{Line}
use Rattle.btor2_model.specs.Rules.{rule_of, is_input, is_output, is_state}
use Rattle.btor2_model.specs.Run.{StepValues, Values, base_of, ids_of, no_bits, width_in}
use Rattle.btor2_model.specs.Scope.{DeclaredIds, id_at, meaning_depends, sort_width_in, width_wanted}
use Rattle.btor2_model.specs.declared.known_values.KnownValues.{KnownValues}
use Rattle.btor2_model.specs.declared.meaning.IdMeaning.{IdMeaning}
use Rattle.btor2_model.specs.declared.rule.FormRule.TheVariants as forms
use Rattle.btor2_model.specs.declared.rule.FormRule.{FormRule}
use Rattle.btor2_model.specs.SlowRun.{HasValue, is_constant}

-- the value of an id, if it is known
abbrev pub known_value : KnownValues → ℕ → Option BitVector
known_value known id = unwrap_or (map.get nat_cmp known.entries id) None

-- what is known of values is so
abbrev pub Knows : KnownValues → Values → Type 0
Knows known values = (id : ℕ) (value : BitVector) → known_value known id ≡ Some value → values id ≡ value

-- a step with these values of the inputs of these ids, and these states
abbrev pub step_with : List ℕ → List BitVector → Values → StepValues
step_with ids inputs states = record { inputs = λ id. unwrap_or (lookup (nat_eq id) (zip ids inputs)) no_bits; states = states }

-- the line is of the rule and sets this state
abbrev pub sets : (FormRule → Bool) → ℕ → Line → Bool
sets test state line = test (rule_of line.keyword) && nat_eq state (id_at line.arguments 1)

-- the line is an output of one bit, after what is declared
abbrev pub is_flag : DeclaredIds → Line → Bool
is_flag scope line =
    is_output (rule_of line.keyword) && (unwrap_or (option_map (λ (meaning : IdMeaning). meaning.width) (scope.meanings (id_at line.arguments 0))) 0 == 1)

-- each value that depends on no input and no state is known, and so are the others where those are given
abbrev pub IsFilled : Bool → DeclaredIds → KnownValues → Type 0
IsFilled given scope known = (id width : ℕ) → width_wanted kinds.Value (scope.meanings id) ≡ Some width → (meaning_depends (scope.meanings id) ≡ true → given ≡ true) → HasValue (known_value known id) width

-- each input has a value of its width among these
abbrev pub InputsHave : List Line → List BitVector → Type 0
InputsHave lines inputs = All (λ id. HasValue (lookup (nat_eq id) (zip (ids_of is_input lines) inputs)) (width_in lines id)) (ids_of is_input lines)

-- each state has a value of its width
abbrev pub StatesHave : List Line → KnownValues → Type 0
StatesHave lines states = All (λ id. HasValue (known_value states id) (width_in lines id)) (ids_of is_state lines)

-- the form has one operand
abbrev pub takes_one : FormRule → Bool
takes_one forms.Unary = true
takes_one forms.Reduced = true
takes_one other = false

-- the form has two operands of one width, and one bit
abbrev pub compares : FormRule → Bool
compares forms.Compared = true
compares forms.Boolean = true
compares other = false

-- the form has two operands of one width
abbrev pub takes_alike : FormRule → Bool
takes_alike forms.Binary = true
takes_alike other = compares other

-- the width of the value, where its operands are of this one
abbrev pub width_by : FormRule → ℕ → ℕ
width_by forms.Unary width = width
width_by forms.Binary width = width
width_by other width = 1

-- the form is an operator or a constant
abbrev pub computes : FormRule → Bool
computes forms.Sort = false
computes forms.Input = false
computes forms.State = false
computes forms.Init = false
computes forms.Next = false
computes forms.Output = false
computes forms.Bad = false
computes other = true

-- an operator or a constant gives a value, where its operands have values of widths that it takes
pub record GivesValue (scope : DeclaredIds) (known : KnownValues) (keyword : Keyword) (given : List Argument) (result : Option BitVector) : Type 0 where
  pub constant : (sort : ℕ) → given ≡ arguments.Id sort ∷ [] → is_constant (rule_of keyword) ≡ true → 1 ≤ sort_width_in scope sort → HasValue result (sort_width_in scope sort)
  pub numeral : (sort : ℕ) (digits : List ℕ) → given ≡ arguments.Id sort ∷ arguments.Numeral digits ∷ []
      → 1 ≤ sort_width_in scope sort → digits_value (radix_of (base_of keyword)) digits < 2 ^ sort_width_in scope sort → HasValue result (sort_width_in scope sort)
  pub one : (sort a : ℕ) (x : BitVector) → given ≡ arguments.Id sort ∷ arguments.Id a ∷ [] → known_value known a ≡ Some x
      → takes_one (rule_of keyword) ≡ true → HasValue result (width_by (rule_of keyword) x.width)
  pub alike : (sort a b : ℕ) (x y : BitVector) → given ≡ arguments.Id sort ∷ arguments.Id a ∷ arguments.Id b ∷ [] → known_value known a ≡ Some x → known_value known b ≡ Some y
      → x.width ≡ y.width → takes_alike (rule_of keyword) ≡ true → (rule_of keyword ≡ forms.Boolean → x.width ≡ 1) → HasValue result (width_by (rule_of keyword) x.width)
  pub joined : (sort a b : ℕ) (x y : BitVector) → given ≡ arguments.Id sort ∷ arguments.Id a ∷ arguments.Id b ∷ [] → known_value known a ≡ Some x → known_value known b ≡ Some y
      → x.width + y.width ≤ 128 → rule_of keyword ≡ forms.Joined → HasValue result (x.width + y.width)
  pub extended : (sort a more : ℕ) (x : BitVector) → given ≡ arguments.Id sort ∷ arguments.Id a ∷ arguments.Number more ∷ [] → known_value known a ≡ Some x
      → x.width + more ≤ 128 → HasValue result (x.width + more)
  pub sliced : (sort a upper lower : ℕ) (x : BitVector) → given ≡ arguments.Id sort ∷ arguments.Id a ∷ arguments.Number upper ∷ arguments.Number lower ∷ [] → known_value known a ≡ Some x
      → lower ≤ upper → upper < x.width → HasValue result (upper - lower + 1)
  pub chosen : (sort c a b : ℕ) (z x y : BitVector) → given ≡ arguments.Id sort ∷ arguments.Id c ∷ arguments.Id a ∷ arguments.Id b ∷ []
      → known_value known c ≡ Some z → known_value known a ≡ Some x → known_value known b ≡ Some y → x.width ≡ y.width → HasValue result x.width
