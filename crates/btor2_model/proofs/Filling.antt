-- Each line behind others has its value, as far as what it stands on has.
use Rattle.std.proofs.Common.{◌≡◌, ℕ, suc, arith, ◌+◌, ◌<◌, ◌≤◌, nat_eq, nat_le, not, Bool, true, false, ◌||◌, cond, filter, List, [], ◌∷◌, All, length, get_or, drop, map, Option, None, Some, is_some, refl, sym, ap, ◌∙◌, subst}
use Rattle.std.proofs.lemmas.Bool.{eq-eqb, eqb-true, leb-true}
use Rattle.std.proofs.lemmas.List.{drop_more, drop_all}
use Rattle.std.specs.List.{find, list_all, list_any, zip}
use Rattle.std.specs.Map.{lookup, update}
use Rattle.std.specs.Option.{option_map, unwrap_or}
use Rattle.kw_bits.specs.BitVector.{BitVector}
use Rattle.btor2_text.specs.Printable.{ArePrintable}
use Rattle.btor2_text.specs.declared.kind.ArgumentKind.TheVariants as kinds
use Rattle.btor2_text.specs.declared.line.Line.{Line}
use Rattle.btor2_model.specs.Acceptance.{agree, fault_in, init_is_fixed, is_fresh, is_known, line_fault, lines_fault, numeral_fits, passes, sets_first}
use Rattle.btor2_model.specs.Rules.{bounds_fit, is_input, is_state, role_of, rule_of}
use Rattle.btor2_model.specs.Run.{ids_of, width_in}
use Rattle.btor2_model.specs.Scope.{DeclaredIds, argument_depends, behind, behind_all, meaning_depends, meaning_of, measures_of, no_lines, sort_width, value_width, width_or_none, width_wanted}
use Rattle.btor2_model.specs.SlowRun.{HasValue}
use Rattle.btor2_model.specs.inner.SlowRun.{GivesValue, InputsHave, IsFilled, StatesHave, computes, known_value}
use Rattle.btor2_model.specs.declared.known_values.KnownValues.{KnownValues}
use Rattle.btor2_model.specs.declared.meaning.IdMeaning.{IdMeaning}
use Rattle.btor2_model.specs.declared.rule.Measures.{Measures}
use Rattle.btor2_model.specs.declared.rule.FormRule.{FormRule}
use Rattle.btor2_model.specs.declared.rule.FormRule.TheVariants as forms
use Rattle.btor2_model.proofs.Evaluation.{accepted-next, option_map-none, option_or-none}
use Rattle.btor2_model.proofs.Filled.{both, first_measure, later, line-has, some-same, sooner}

-- a line's id and its bounds, where it has no fault
pub fresh-and-bounds : (a b c d e f g : Bool) → option_map (λ (k : ℕ × Bool). k.0) (find (λ (k : ℕ × Bool). not k.1) ((51, a) ∷ (52, b) ∷ (53, c) ∷ (55, d) ∷ (57, e) ∷ (58, f) ∷ (59, g) ∷ [])) ≡ None
    → (a ≡ true) × (d ≡ true)
fresh-and-bounds true true true true e f g is = (refl, refl)
fresh-and-bounds true true true false e f g is = absurd (cc)
fresh-and-bounds true true false d e f g is = absurd (cc)
fresh-and-bounds true false c d e f g is = absurd (cc)
fresh-and-bounds false b c d e f g is = absurd (cc)

pub line-met : (scope : DeclaredIds) (line : Line) → line_fault scope line ≡ None → (is_fresh scope line.id ≡ true) × (passes bounds_fit (rule_of line.keyword) (measures_of scope line) ≡ true)
line-met scope line fine =
    let rule = rule_of line.keyword in
    fresh-and-bounds (is_fresh scope line.id) (list_all (is_known scope) line.arguments) (agree scope line.keyword line.arguments) (passes bounds_fit rule (measures_of scope line)) (sets_first rule scope line.arguments)
    (numeral_fits rule scope line.arguments) (init_is_fixed rule scope line.arguments) fine

pub nothing-there : (o : Option IdMeaning) → not (is_some o) ≡ true → o ≡ None
nothing-there None is = refl
nothing-there (Some m) is = absurd (cc)

other-id : (same : Bool) (old : Option IdMeaning) (new m : IdMeaning) → (same ≡ true → old ≡ None) → old ≡ Some m → cond same (Some new) old ≡ Some m
other-id true old new m fresh is = let none = fresh refl in absurd (cc)
other-id false old new m fresh is = is

-- a meaning stays behind a line without a fault
pub stays-one : (scope : DeclaredIds) (line : Line) (id : ℕ) (m : IdMeaning) → line_fault scope line ≡ None → scope.meanings id ≡ Some m → (behind scope line).meanings id ≡ Some m
stays-one scope line id m fine is =
    other-id (nat_eq line.id id) (scope.meanings id) (meaning_of scope line) m
    (λ same. ap scope.meanings (sym (eqb-true line.id id same)) ∙ nothing-there (scope.meanings line.id) (line-met scope line fine).0) is

-- and behind all others
pub stays : (lines : List Line) (scope : DeclaredIds) (id : ℕ) (m : IdMeaning) → lines_fault scope lines ≡ None → scope.meanings id ≡ Some m → (behind_all scope lines).meanings id ≡ Some m
stays [] scope id m fine is = is
stays (line ∷ lines) scope id m fine is =
    let each = option_or-none (option_map (fault_in line) (line_fault scope line)) (lines_fault (behind scope line) lines) fine in
    stays lines (behind scope line) id m each.1 (stays-one scope line id m (option_map-none (fault_in line) (line_fault scope line) each.0) is)

-- a sort has 1 to 128 bits
pub sort-new : (rule : FormRule) (found : Option Measures) (w : ℕ) → passes bounds_fit rule found ≡ true → sort_width (role_of rule) (width_or_none rule found) ≡ Some w → (1 ≤ w) × (w ≤ 128)
sort-new forms.Sort (Some m) w fits is =
    let each = both (nat_le 1 m.second) (nat_le m.second 128) fits in
    let same = some-same m.second w is in
    (subst (λ (n : ℕ). 1 ≤ n) same (leb-true 1 m.second each.0), subst (λ (n : ℕ). n ≤ 128) same (leb-true m.second 128 each.1))
sort-new forms.Sort None w fits is = absurd (cc)
sort-new forms.Input found w fits is = absurd (cc)
sort-new forms.State found w fits is = absurd (cc)
sort-new forms.Constant found w fits is = absurd (cc)
sort-new (forms.Numeral base) found w fits is = absurd (cc)
sort-new forms.Unary found w fits is = absurd (cc)
sort-new forms.Reduced found w fits is = absurd (cc)
sort-new forms.Binary found w fits is = absurd (cc)
sort-new forms.Compared found w fits is = absurd (cc)
sort-new forms.Boolean found w fits is = absurd (cc)
sort-new forms.Joined found w fits is = absurd (cc)
sort-new forms.Sliced found w fits is = absurd (cc)
sort-new forms.Extended found w fits is = absurd (cc)
sort-new forms.Chosen found w fits is = absurd (cc)
sort-new forms.Init found w fits is = absurd (cc)
sort-new forms.Next found w fits is = absurd (cc)
sort-new forms.Output found w fits is = absurd (cc)
sort-new forms.Bad found w fits is = absurd (cc)

-- the value of a line of each rule that has one
new-has : (rule : FormRule) (found : Option Measures) (value : Option BitVector) (w : ℕ) → value_width (role_of rule) (width_or_none rule found) ≡ Some w
    → (computes rule ≡ true → HasValue value (first_measure found)) → (is_input rule ≡ true → HasValue value (width_or_none rule found)) → (is_state rule ≡ true → HasValue value (width_or_none rule found)) → HasValue value w
new-has forms.Sort found value w is computed input state = absurd (cc)
new-has forms.Input found value w is computed input state = subst (HasValue value) (some-same (width_or_none forms.Input found) w is) (input refl)
new-has forms.State found value w is computed input state = subst (HasValue value) (some-same (width_or_none forms.State found) w is) (state refl)
new-has forms.Constant None value w is computed input state = subst (HasValue value) (some-same 0 w is) (computed refl)
new-has forms.Constant (Some m) value w is computed input state = subst (HasValue value) (some-same m.first w is) (computed refl)
new-has (forms.Numeral base) None value w is computed input state = subst (HasValue value) (some-same 0 w is) (computed refl)
new-has (forms.Numeral base) (Some m) value w is computed input state = subst (HasValue value) (some-same m.first w is) (computed refl)
new-has forms.Unary None value w is computed input state = subst (HasValue value) (some-same 0 w is) (computed refl)
new-has forms.Unary (Some m) value w is computed input state = subst (HasValue value) (some-same m.first w is) (computed refl)
new-has forms.Reduced None value w is computed input state = subst (HasValue value) (some-same 0 w is) (computed refl)
new-has forms.Reduced (Some m) value w is computed input state = subst (HasValue value) (some-same m.first w is) (computed refl)
new-has forms.Binary None value w is computed input state = subst (HasValue value) (some-same 0 w is) (computed refl)
new-has forms.Binary (Some m) value w is computed input state = subst (HasValue value) (some-same m.first w is) (computed refl)
new-has forms.Compared None value w is computed input state = subst (HasValue value) (some-same 0 w is) (computed refl)
new-has forms.Compared (Some m) value w is computed input state = subst (HasValue value) (some-same m.first w is) (computed refl)
new-has forms.Boolean None value w is computed input state = subst (HasValue value) (some-same 0 w is) (computed refl)
new-has forms.Boolean (Some m) value w is computed input state = subst (HasValue value) (some-same m.first w is) (computed refl)
new-has forms.Joined None value w is computed input state = subst (HasValue value) (some-same 0 w is) (computed refl)
new-has forms.Joined (Some m) value w is computed input state = subst (HasValue value) (some-same m.first w is) (computed refl)
new-has forms.Sliced None value w is computed input state = subst (HasValue value) (some-same 0 w is) (computed refl)
new-has forms.Sliced (Some m) value w is computed input state = subst (HasValue value) (some-same m.first w is) (computed refl)
new-has forms.Extended None value w is computed input state = subst (HasValue value) (some-same 0 w is) (computed refl)
new-has forms.Extended (Some m) value w is computed input state = subst (HasValue value) (some-same m.first w is) (computed refl)
new-has forms.Chosen None value w is computed input state = subst (HasValue value) (some-same 0 w is) (computed refl)
new-has forms.Chosen (Some m) value w is computed input state = subst (HasValue value) (some-same m.first w is) (computed refl)
new-has forms.Init found value w is computed input state = absurd (cc)
new-has forms.Next found value w is computed input state = absurd (cc)
new-has forms.Output found value w is computed input state = absurd (cc)
new-has forms.Bad found value w is computed input state = absurd (cc)

pub sorts-at : (here : Bool) (old : Option IdMeaning) (new : IdMeaning) (w : ℕ) → (width_wanted kinds.Sort old ≡ Some w → (1 ≤ w) × (w ≤ 128)) → (width_wanted kinds.Sort (Some new) ≡ Some w → (1 ≤ w) × (w ≤ 128))
    → width_wanted kinds.Sort (cond here (Some new) old) ≡ Some w → (1 ≤ w) × (w ≤ 128)
sorts-at true old new w others one is = one is
sorts-at false old new w others one is = others is

filled-at : (here : Bool) (old : Option IdMeaning) (new : IdMeaning) (value before : Option BitVector) (given : Bool) (w : ℕ)
    → (width_wanted kinds.Value old ≡ Some w → (meaning_depends old ≡ true → given ≡ true) → HasValue before w) → (width_wanted kinds.Value (Some new) ≡ Some w → (new.depends ≡ true → given ≡ true) → HasValue value w)
    → width_wanted kinds.Value (cond here (Some new) old) ≡ Some w → (meaning_depends (cond here (Some new) old) ≡ true → given ≡ true) → HasValue (cond here value before) w
filled-at true old new value before given w others one is ready = one is ready
filled-at false old new value before given w others one is ready = others is ready

all-rest : (P : ℕ → Type 0) (here : Bool) (line : Line) (kept : List Line) → All P (map (λ (l : Line). l.id) (cond here (line ∷ kept) kept)) → All P (map (λ (l : Line). l.id) kept)
all-rest P true line kept all = λ k d within. all (suc k) d (omega (arith, within))
all-rest P false line kept all = all

all-head : (P : ℕ → Type 0) (here : Bool) (line : Line) (kept : List Line) → here ≡ true → All P (map (λ (l : Line). l.id) (cond here (line ∷ kept) kept)) → P line.id
all-head P true line kept is all = all 0 line.id (omega arith)
all-head P false line kept is all = absurd (cc)

abbrev InputHas : List Line → List BitVector → ℕ → Type 0
InputHas lines inputs id = HasValue (lookup (nat_eq id) (zip (ids_of is_input lines) inputs)) (width_in lines id)

abbrev StateHas : List Line → KnownValues → ℕ → Type 0
StateHas lines states id = HasValue (known_value states id) (width_in lines id)

-- the lines before this place have the values that they can have
pub record Filling (given : Bool) (lines : List Line) (inputs : List BitVector) (states : KnownValues) (place : ℕ) (scope : DeclaredIds) (values : KnownValues) : Type 0 where
  pub accepted : lines_fault scope (drop place lines) ≡ None
  pub declared : behind_all no_lines lines ≡ behind_all scope (drop place lines)
  pub forms : ArePrintable (drop place lines)
  pub sorts : (id w : ℕ) → width_wanted kinds.Sort (scope.meanings id) ≡ Some w → (1 ≤ w) × (w ≤ 128)
  pub filled : IsFilled given scope values
  pub inputs_have : given ≡ true → All (InputHas lines inputs) (ids_of is_input (drop place lines))
  pub states_have : given ≡ true → All (StateHas lines states) (ids_of is_state (drop place lines))

pub Filling-start : (given : Bool) (lines : List Line) (inputs : List BitVector) (states : KnownValues) (scope : DeclaredIds) (values : KnownValues) → scope ≡ no_lines → lines_fault no_lines lines ≡ None → ArePrintable lines
    → (given ≡ true → InputsHave lines inputs) → (given ≡ true → StatesHave lines states) → Filling given lines inputs states 0 scope values
Filling-start given lines inputs states scope values is fine forms inputs_have states_have =
    subst (λ (s : DeclaredIds). Filling given lines inputs states 0 s values) (sym is)
    (record { accepted = fine; declared = refl; forms = forms; sorts = λ id w none. absurd (cc); filled = λ id w none ready. absurd (cc); inputs_have = inputs_have; states_have = states_have })

-- the width of a line's id in the whole text
pub width-of-line : (lines rest : List Line) (scope : DeclaredIds) (line : Line) → behind_all no_lines lines ≡ behind_all (behind scope line) rest → lines_fault (behind scope line) rest ≡ None → (behind scope line).meanings line.id ≡ Some (meaning_of scope line)
    → width_in lines line.id ≡ width_or_none (rule_of line.keyword) (measures_of scope line)
width-of-line lines rest scope line declared fine here =
    ap (λ (o : Option IdMeaning). unwrap_or (option_map (λ (m : IdMeaning). m.width) o) 0) (ap (λ (s : DeclaredIds). s.meanings line.id) declared ∙ stays rest (behind scope line) line.id (meaning_of scope line) fine here)

pub Filling-next : (given : Bool) (lines : List Line) (inputs : List BitVector) (states : KnownValues) (place : ℕ) (scope next : DeclaredIds) (values more : KnownValues) (line : Line) (value : Option BitVector)
    → Filling given lines inputs states place scope values → place < length lines → line ≡ get_or lines place line → next ≡ behind scope line → known_value more ≡ update nat_eq (known_value values) line.id value
    → (is_input (rule_of line.keyword) ≡ true → value ≡ lookup (nat_eq line.id) (zip (ids_of is_input lines) inputs)) → (is_state (rule_of line.keyword) ≡ true → value ≡ known_value states line.id)
    → (computes (rule_of line.keyword) ≡ true → GivesValue scope values line.keyword line.arguments value) → Filling given lines inputs states (place + 1) next more
Filling-next given lines inputs states place scope next values more line value r within is declares sets input state gives =
    let rest = drop (place + 1) lines in
    let here : drop place lines ≡ line ∷ rest = drop_more lines place line within ∙ ap (λ l. l ∷ rest) (sym is) in
    let rule = rule_of line.keyword in
    let found = measures_of scope line in
    let new = meaning_of scope line in
    let fine = accepted-next lines place scope line within is r.accepted in
    let forms = subst ArePrintable here r.forms in
    let declared = r.declared ∙ ap (behind_all scope) here in
    let inputs_here = λ (now : given ≡ true). subst (λ (ls : List Line). All (InputHas lines inputs) (ids_of is_input ls)) here (r.inputs_have now) in
    let states_here = λ (now : given ≡ true). subst (λ (ls : List Line). All (StateHas lines states) (ids_of is_state ls)) here (r.states_have now) in
    let kept_inputs = filter (λ (l : Line). is_input (rule_of l.keyword)) rest in
    let kept_states = filter (λ (l : Line). is_state (rule_of l.keyword)) rest in
    let set_here : (behind scope line).meanings line.id ≡ Some new = ap (λ (b : Bool). cond b (Some new) (scope.meanings line.id)) (eq-eqb line.id line.id refl) in
    let width = width-of-line lines rest scope line declared fine.1 set_here in
    let value_here = λ (w : ℕ) (wanted : width_wanted kinds.Value (Some new) ≡ Some w) (ready : new.depends ≡ true → given ≡ true).
    new-has rule found value w wanted
    (λ computed. line-has given scope values line value fine.0 forms.0.arguments r.sorts r.filled (λ d. ready (later (is_input rule || is_state rule) (list_any (argument_depends scope) line.arguments) d)) computed (gives computed))
    (λ an. let now = ready (sooner (is_input rule || is_state rule) (list_any (argument_depends scope) line.arguments) (sooner (is_input rule) (is_state rule) an)) in
    subst (λ (o : Option BitVector). HasValue o (width_or_none rule found)) (sym (input an)) (subst (HasValue (lookup (nat_eq line.id) (zip (ids_of is_input lines) inputs))) width
    (all-head (InputHas lines inputs) (is_input rule) line kept_inputs an (inputs_here now))))
    (λ a. let now = ready (sooner (is_input rule || is_state rule) (list_any (argument_depends scope) line.arguments) (later (is_input rule) (is_state rule) a)) in
    subst (λ (o : Option BitVector). HasValue o (width_or_none rule found)) (sym (state a)) (subst (HasValue (known_value states line.id)) width
    (all-head (StateHas lines states) (is_state rule) line kept_states a (states_here now)))) in
    subst (λ (s : DeclaredIds). Filling given lines inputs states (place + 1) s more) (sym declares)
    (record {
      accepted = fine.1;
      declared = declared;
      forms = forms.1;
      sorts = λ id w wanted. sorts-at (nat_eq line.id id) (scope.meanings id) new w (r.sorts id w) (sort-new rule found w (line-met scope line fine.0).1) wanted;
      filled = λ id w wanted ready.
          subst (λ (o : Option BitVector). HasValue o w) (sym (ap (λ (f : ℕ → Option BitVector). f id) sets))
          (filled-at (nat_eq line.id id) (scope.meanings id) new value (known_value values id) given w (r.filled id w) (value_here w) wanted ready);
      inputs_have = λ now. all-rest (InputHas lines inputs) (is_input rule) line kept_inputs (inputs_here now);
      states_have = λ now. all-rest (StateHas lines states) (is_state rule) line kept_states (states_here now);
    })

pub Filling-end : (given : Bool) (lines : List Line) (inputs : List BitVector) (states : KnownValues) (place : ℕ) (scope : DeclaredIds) (values : KnownValues) → Filling given lines inputs states place scope values → length lines ≤ place
    → IsFilled given (behind_all no_lines lines) values
Filling-end given lines inputs states place scope values r end =
    subst (λ (s : DeclaredIds). IsFilled given s values) (sym (r.declared ∙ ap (behind_all scope) (drop_all place lines end))) r.filled

-- the same, where those that the lines depend on are
abbrev pub Fills : List Line → List BitVector → KnownValues → ℕ → DeclaredIds → KnownValues → Type 0
Fills lines inputs states place scope values =
    (given : Bool) → ArePrintable lines → (given ≡ true → InputsHave lines inputs) → (given ≡ true → StatesHave lines states) → Filling given lines inputs states place scope values
