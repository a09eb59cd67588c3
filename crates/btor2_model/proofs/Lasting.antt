-- States have values before all steps and after each, and so have outputs of one bit in each.
use Rattle.std.proofs.Common.{◌≡◌, ◌==◌, ℕ, ◌+◌, ◌<◌, ◌≤◌, nat_eq, Bool, true, false, cond, List, [], ◌∷◌, All, IsSome, length, get_or, take, map, Option, None, Some, refl, sym, ap, ◌∙◌, subst}
use Rattle.std.proofs.lemmas.Bool.{eq-eqb, eqb-true}
use Rattle.std.proofs.lemmas.List.Elements.{All-cons, All-filter, All-map, All-more, All-nil, All-weaker}
use Rattle.std.specs.List.{find, zip}
use Rattle.std.specs.Map.{lookup, update}
use Rattle.std.specs.Option.{option_and_then, option_map, unwrap_or}
use Rattle.kw_bits.specs.BitVector.{BitVector}
use Rattle.btor2_text.specs.Forms.{kinds_of}
use Rattle.btor2_text.specs.Printable.{ArePrintable, FitKinds}
use Rattle.btor2_text.specs.declared.kind.ArgumentKind.{ArgumentKind}
use Rattle.btor2_text.specs.declared.kind.ArgumentKind.TheVariants as kinds
use Rattle.btor2_text.specs.declared.line.Line.{Line}
use Rattle.btor2_model.specs.Acceptance.{IsAccepted, lines_fault}
use Rattle.btor2_model.specs.Rules.{is_init, is_input, is_next, is_output, is_state, rule_of}
use Rattle.btor2_model.specs.Run.{flag_ids, ids_of, lines_by_rule, width_in}
use Rattle.btor2_model.specs.Scope.{DeclaredIds, behind, behind_all, id_at, measures, measures_of, meaning_of, no_lines, width_or_none, width_wanted}
use Rattle.btor2_model.specs.SlowRun.{HasValue}
use Rattle.btor2_model.specs.inner.SlowRun.{InputsHave, IsFilled, known_value, sets}
use Rattle.btor2_model.specs.declared.known_values.KnownValues.{KnownValues}
use Rattle.btor2_model.specs.declared.meaning.IdMeaning.{IdMeaning}
use Rattle.btor2_model.specs.declared.rule.FormRule.{FormRule}
use Rattle.btor2_model.specs.declared.rule.FormRule.TheVariants as forms
use Rattle.btor2_model.proofs.Declared.{IsValue, all-passing, each-fine, each-line, next-of, output-value, width-is, width_at_end}
use Rattle.btor2_model.proofs.Ends.{SameWidth, init-found, measured-widths}
use Rattle.btor2_model.proofs.Filled.{each-measure, some-same, sort-alone}
use Rattle.btor2_model.proofs.Filling.{line-met, sort-new, sorts-at, stays}
use Rattle.btor2_model.proofs.KindsByRule.{kinds-by, kinds_by}

abbrev pub widths : List BitVector → List ℕ
widths values = map (λ (value : BitVector). value.width) values

head-same : (a b : ℕ) (xs ys : List ℕ) → a ∷ xs ≡ b ∷ ys → (a ≡ b) × (xs ≡ ys)
head-same a b xs ys is = (cc, cc)

abbrev pub Given : (ℕ → ℕ) → List ℕ → List BitVector → ℕ → Type 0
Given width ids inputs id = HasValue (lookup (nat_eq id) (zip ids inputs)) (width id)

given-at : (here : Bool) (value : BitVector) (rest : Option BitVector) (w : ℕ) → (here ≡ true → value.width ≡ w) → HasValue rest w → HasValue (cond here (Some value) rest) w
given-at true value rest w is has = is refl
given-at false value rest w is has = has

-- where there is a value of its width for each input, each has one by its id
pub inputs-given : (width : ℕ → ℕ) (ids : List ℕ) (inputs : List BitVector) → widths inputs ≡ map width ids → All (Given width ids inputs) ids
inputs-given width [] inputs is = All-nil (Given width [] inputs)
inputs-given width (id ∷ ids) [] is = absurd (cc)
inputs-given width (id ∷ ids) (value ∷ inputs) is =
    let same = head-same value.width (width id) (widths inputs) (map width ids) is in
    All-cons (Given width (id ∷ ids) (value ∷ inputs)) id ids (subst (λ (b : Bool). HasValue (cond b (Some value) (lookup (nat_eq id) (zip ids inputs))) (width id)) (sym (eq-eqb id id refl)) same.0)
    (All-weaker (Given width ids inputs) (Given width (id ∷ ids) (value ∷ inputs))
    (λ q has. given-at (nat_eq q id) value (lookup (nat_eq q) (zip ids inputs)) (width q) (λ here. same.0 ∙ ap width (sym (eqb-true q id here))) has) ids (inputs-given width ids inputs same.1))

pub inputs-have : (lines : List Line) (given : List BitVector) → widths given ≡ map (width_in lines) (ids_of is_input lines) → InputsHave lines given
inputs-have lines given is = inputs-given (width_in lines) (ids_of is_input lines) given is

-- each sort has 1 to 128 bits
abbrev AreSorts : DeclaredIds → Type 0
AreSorts scope = (id w : ℕ) → width_wanted kinds.Sort (scope.meanings id) ≡ Some w → (1 ≤ w) × (w ≤ 128)

sorts-end : (lines : List Line) (scope : DeclaredIds) → lines_fault scope lines ≡ None → AreSorts scope → AreSorts (behind_all scope lines)
sorts-end [] scope fine sorts = sorts
sorts-end (line ∷ lines) scope fine sorts =
    let each = each-fine scope line lines fine in
    sorts-end lines (behind scope line) each.1
    (λ id w wanted. sorts-at (nat_eq line.id id) (scope.meanings id) (meaning_of scope line) w (sorts id w) (sort-new (rule_of line.keyword) (measures_of scope line) w (line-met scope line each.0).1) wanted)

sort-some : (o : Option IdMeaning) (w : ℕ) → width_wanted kinds.Sort o ≡ Some w → (m : IdMeaning) × (o ≡ Some m)
sort-some (Some m) w is = (m, refl)
sort-some None w is = absurd (cc)

state-rule : (rule : FormRule) → is_state rule ≡ true → rule ≡ forms.State
state-rule forms.State is = refl
state-rule other is = absurd (cc)

abbrev pub IsSortWidth : DeclaredIds → ℕ → Type 0
IsSortWidth scope w = (sort : ℕ) × (width_wanted kinds.Sort (scope.meanings sort) ≡ Some w)

-- a state is as wide as a sort
state-sorts : (lines : List Line) → lines_fault no_lines lines ≡ None → ArePrintable lines
    → All (λ (line : Line). is_state (rule_of line.keyword) ≡ true → IsSortWidth (behind_all no_lines lines) (width_in lines line.id)) lines
state-sorts lines fine printable =
    each-line is_state (λ scope line. IsSortWidth scope (width_at_end scope line.id))
    (λ scope line rest line_fine fits passes.
    let each = each-fine scope line rest line_fine in
    let end = behind_all scope (line ∷ rest) in
    let rule = state-rule (rule_of line.keyword) passes in
    let (m, measured, widths_are) = measured-widths scope line each.0 in
    let form : kinds_of line.keyword ≡ kinds.Sort ∷ [] = kinds-by line.keyword ∙ ap kinds_by rule in
    let (sort, is) = sort-alone line.arguments (subst (λ (ks : List ArgumentKind). FitKinds ks line.arguments) form fits) in
    let w = (each-measure (width_wanted kinds.Sort (scope.meanings sort)) (Some 0) (Some 0) (Some 0) m (sym (ap (measures scope (kinds.Sort ∷ [])) is) ∙ ap (λ (ks : List ArgumentKind). measures scope ks line.arguments) (sym form) ∙ measured)).0 in
    let named = sort-some (scope.meanings sort) m.first w in
    let wanted : width_wanted kinds.Sort (end.meanings sort) ≡ Some m.first = ap (width_wanted kinds.Sort) (stays (line ∷ rest) scope sort named.0 line_fine named.1 ∙ sym named.1) ∙ w in
    let new = meaning_of scope line in
    let at : end.meanings line.id ≡ Some new = stays rest (behind scope line) line.id new each.1 (ap (λ (b : Bool). cond b (Some new) (scope.meanings line.id)) (eq-eqb line.id line.id refl)) in
    let own : new.width ≡ m.first = ap (λ (r : FormRule). width_or_none r (measures_of scope line)) rule ∙ ap (width_or_none forms.State) measured in
    let width : width_at_end end line.id ≡ m.first = ap (λ (o : Option IdMeaning). unwrap_or (option_map (λ (x : IdMeaning). x.width) o) 0) at ∙ own in
    (sort, wanted ∙ ap Some (sym width)))
    lines no_lines fine printable

abbrev pub IsNarrowId : List Line → ℕ → Type 0
IsNarrowId lines id = (1 ≤ width_in lines id) × (width_in lines id ≤ 128)

-- and so has 1 to 128 bits
pub states-narrow : (lines : List Line) → lines_fault no_lines lines ≡ None → ArePrintable lines → All (IsNarrowId lines) (ids_of is_state lines)
states-narrow lines fine forms =
    let sorts = sorts-end lines no_lines fine (λ id w none. absurd (cc)) in
    All-map (IsNarrowId lines) (λ (line : Line). line.id) (lines_by_rule is_state lines)
    (all-passing is_state (λ (line : Line). IsNarrowId lines line.id) lines
    (All-weaker (λ (line : Line). is_state (rule_of line.keyword) ≡ true → IsSortWidth (behind_all no_lines lines) (width_in lines line.id)) (λ (line : Line). is_state (rule_of line.keyword) ≡ true → IsNarrowId lines line.id)
    (λ line has state. let sort = has state in sorts sort.0 (width_in lines line.id) sort.1) lines (state-sorts lines fine forms)))

has-at : (here : Bool) (value before : Option BitVector) (w : ℕ) → (here ≡ true → HasValue value w) → HasValue before w → HasValue (cond here value before) w
has-at true value before w set old = set refl
has-at false value before w set old = old

-- what has a value has one after another is set
pub has-set : (known next : KnownValues) (id q : ℕ) (value : Option BitVector) (width : ℕ → ℕ) → known_value next ≡ update nat_eq (known_value known) id value → HasValue value (width id) → HasValue (known_value known q) (width q)
    → HasValue (known_value next q) (width q)
has-set known next id q value width is set old =
    subst (λ (o : Option BitVector). HasValue o (width q)) (sym (ap (λ (f : ℕ → Option BitVector). f q) is))
    (has-at (nat_eq id q) value (known_value known q) (width q) (λ here. subst (λ (i : ℕ). HasValue value (width i)) (eqb-true id q here) set) old)

-- and the one that is set has it
pub has-set-here : (known next : KnownValues) (id : ℕ) (value : Option BitVector) (width : ℕ) → known_value next ≡ update nat_eq (known_value known) id value → HasValue value width → HasValue (known_value next id) width
has-set-here known next id value width is set =
    subst (λ (o : Option BitVector). HasValue o width) (sym (ap (λ (f : ℕ → Option BitVector). f id) is))
    (subst (λ (b : Bool). HasValue (cond b value (known_value known id)) width) (sym (eq-eqb id id refl)) set)

-- one more of these ids has a value
pub states-more : (width : ℕ → ℕ) (known next : KnownValues) (ids : List ℕ) (place d : ℕ) (value : Option BitVector) → place < length ids → known_value next ≡ update nat_eq (known_value known) (get_or ids place d) value
    → HasValue value (width (get_or ids place d)) → All (λ id. HasValue (known_value known id) (width id)) (take place ids) → All (λ id. HasValue (known_value next id) (width id)) (take (place + 1) ids)
states-more width known next ids place d value within is set before =
    let Had : ℕ → Type 0 = λ id. HasValue (known_value known id) (width id) in
    let Has : ℕ → Type 0 = λ id. HasValue (known_value next id) (width id) in
    let id = get_or ids place d in
    All-more Has ids place d within (All-weaker Had Has (λ q old. has-set known next id q value width is set old) (take place ids) before) (has-set-here known next id value (width id) is set)

-- the value that an `init` names is there, and of the state's width
pub init-has : (lines : List Line) (values : KnownValues) (state : ℕ) (found : Line) → lines_fault no_lines lines ≡ None → ArePrintable lines → find (sets is_init state) lines ≡ Some found → IsFilled false (behind_all no_lines lines) values
    → HasValue (known_value values (id_at found.arguments 2)) (width_in lines state)
unfolding SameWidth
init-has lines values state found fine forms is filled =
    let end = behind_all no_lines lines in
    let f = init-found lines no_lines state found fine forms is in
    let w = f.0 in
    subst (HasValue (known_value values (id_at found.arguments 2))) (sym (width-is end state w.0 w.1)) (filled (id_at found.arguments 2) w.0 w.2 (λ depends. sym f.1 ∙ depends))

-- the same by the id that it names
pub init-has-by : (lines : List Line) (values : KnownValues) (state id : ℕ) → lines_fault no_lines lines ≡ None → ArePrintable lines → IsFilled false (behind_all no_lines lines) values
    → option_map (λ (line : Line). id_at line.arguments 2) (find (sets is_init state) lines) ≡ Some id → HasValue (known_value values id) (width_in lines state)
init-has-by lines values state id fine forms filled = by (find (sets is_init state) lines) refl
  where
    by : (o : Option Line) → find (sets is_init state) lines ≡ o → option_map (λ (line : Line). id_at line.arguments 2) o ≡ Some id → HasValue (known_value values id) (width_in lines state)
    by (Some found) at named =
        subst (λ (i : ℕ). HasValue (known_value values i) (width_in lines state)) (some-same (id_at found.arguments 2) id named) (init-has lines values state found fine forms at filled)
    by None at named = absurd (cc)

abbrev pub next_value : List Line → KnownValues → ℕ → Option BitVector
next_value lines values state = option_and_then (known_value values) (option_map (λ (line : Line). id_at line.arguments 2) (find (sets is_next state) lines))

-- the value that a `next` names is there, and of the state's width
pub next-has : (lines : List Line) (values : KnownValues) → IsAccepted lines → IsFilled true (behind_all no_lines lines) values → All (λ state. HasValue (next_value lines values state) (width_in lines state)) (ids_of is_state lines)
unfolding SameWidth
next-has lines values accepted filled =
    let end = behind_all no_lines lines in
    let Has : ℕ → Type 0 = λ state. HasValue (next_value lines values state) (width_in lines state) in
    All-map Has (λ (line : Line). line.id) (lines_by_rule is_state lines)
    (all-passing is_state (λ (line : Line). Has line.id) lines
    (All-weaker (λ (line : Line). is_state (rule_of line.keyword) ≡ true → (next : Line) × (find (sets is_next line.id) lines ≡ Some next) × SameWidth end line.id (id_at next.arguments 2))
    (λ (line : Line). is_state (rule_of line.keyword) ≡ true → Has line.id)
    (λ line has state.
    let (next, at, w) = has state in
    let id = id_at next.arguments 2 in
    subst (λ (o : Option Line). HasValue (option_and_then (known_value values) (option_map (λ (l : Line). id_at l.arguments 2) o)) (width_in lines line.id)) (sym at)
    (subst (HasValue (known_value values id)) (sym (width-is end line.id w.0 w.1)) (filled id w.0 w.2 (λ depends. refl))))
    lines (next-of lines accepted)))

-- the values that outputs name are there
pub flags-have : (lines : List Line) (values : KnownValues) → lines_fault no_lines lines ≡ None → ArePrintable lines → IsFilled true (behind_all no_lines lines) values → All (λ id. HasValue (known_value values id) (width_in lines id)) (flag_ids lines)
flags-have lines values fine forms filled =
    let Has : ℕ → Type 0 = λ id. HasValue (known_value values id) (width_in lines id) in
    All-filter (λ id. width_in lines id == 1) Has (map (λ (line : Line). id_at line.arguments 0) (lines_by_rule is_output lines))
    (All-map Has (λ (line : Line). id_at line.arguments 0) (lines_by_rule is_output lines)
    (all-passing is_output (λ (line : Line). Has (id_at line.arguments 0)) lines
    (All-weaker (λ (line : Line). is_output (rule_of line.keyword) ≡ true → IsValue (behind_all no_lines lines) (id_at line.arguments 0) (width_in lines (id_at line.arguments 0)))
    (λ (line : Line). is_output (rule_of line.keyword) ≡ true → Has (id_at line.arguments 0))
    (λ line has output. filled (id_at line.arguments 0) (width_in lines (id_at line.arguments 0)) (has output) (λ depends. refl))
    lines (output-value lines fine forms))))

-- a value that has a width is there
pub some-value : (found : Option BitVector) (width : ℕ) → HasValue found width → IsSome found
some-value (Some value) width has = refl
some-value None width has = absurd has

pub all-some : (known : KnownValues) (width : ℕ → ℕ) (ids : List ℕ) → All (λ id. HasValue (known_value known id) (width id)) ids → All (λ id. IsSome (known_value known id)) ids
all-some known width ids all = All-weaker (λ id. HasValue (known_value known id) (width id)) (λ id. IsSome (known_value known id)) (λ id has. some-value (known_value known id) (width id) has) ids all
