-- A text has the run of another where it has its lines of inputs, states and what sets them, and its values.
use Rattle.std.proofs.Common.{◌≡◌, ℕ, zero, suc, ◌+◌, nat_eq, Bool, true, false, cond, List, ◌∷◌, Option, None, Some, get_or, map, refl, sym, ap, ap₂, ◌∙◌, subst, All}
use Rattle.std.specs.Prelude.{slice_get}
use Rattle.std.specs.List.{find, zip}
use Rattle.std.specs.Map.{lookup}
use Rattle.std.specs.Option.{option_map, unwrap_or}
use Rattle.std.proofs.lemmas.Option.{get_or_from_slice_get, slice_get-map, slice_get_within}
use Rattle.kw_bits.specs.BitVector.{BitVector, zero_at}
use Rattle.one_rule.specs.Run.{InputsByCycle}
use Rattle.btor2_text.specs.declared.line.Line.{Line}
use Rattle.btor2_model.specs.Acceptance.{IsAccepted, lines_fault}
use Rattle.btor2_model.specs.Rules.{is_init, is_input, is_next, is_state, rule_of}
use Rattle.btor2_model.specs.Run.{StepValues, Values, first_state_values, ids_of, input_values, lines_by_rule, next_values, no_bits, states_at, value_set, values_at, values_in, width_in}
use Rattle.btor2_model.specs.Scope.{DeclaredIds, behind_all, id_at, no_lines}
use Rattle.btor2_model.specs.inner.SlowRun.{sets}
use Rattle.btor2_model.specs.declared.rule.FormRule.{FormRule}
use Rattle.btor2_model.specs.declared.rule.FormRule.TheVariants as forms
use Rattle.btor2_model.proofs.Ends.{SameWidth, init-found}
use Rattle.btor2_model.proofs.Selections.{set-by}
use Rattle.btor2_model.proofs.Declared.{IsValue, all-passing, fine-lines, next-of, own-value, state-values}

-- both steps give inputs and the states of these lines the same values
pub record SameGiven (step other : StepValues) (lines : List Line) : Type 0 where
  pub inputs : other.inputs ≡ step.inputs
  pub states : (place id : ℕ) → slice_get (ids_of is_state lines) place ≡ Some id → other.states id ≡ step.states id

ids-kept : (line : Line) (lines : List Line) (b : Bool) → is_state (rule_of line.keyword) ≡ b → ids_of is_state (line ∷ lines) ≡ cond b (line.id ∷ ids_of is_state lines) (ids_of is_state lines)
ids-kept line lines true is = ap (λ (b : Bool). map (λ (l : Line). l.id) (cond b (line ∷ lines_by_rule is_state lines) (lines_by_rule is_state lines))) is
ids-kept line lines false is = ap (λ (b : Bool). map (λ (l : Line). l.id) (cond b (line ∷ lines_by_rule is_state lines) (lines_by_rule is_state lines))) is

pub given-head : (step other : StepValues) (line : Line) (lines : List Line) → SameGiven step other (line ∷ lines) → is_state (rule_of line.keyword) ≡ true → other.states line.id ≡ step.states line.id
given-head step other line lines g is = g.states 0 line.id (ap (λ (ids : List ℕ). slice_get ids 0) (ids-kept line lines true is))

pub given-tail : (step other : StepValues) (line : Line) (lines : List Line) → SameGiven step other (line ∷ lines) → SameGiven step other lines
given-tail step other line lines g = record { inputs = g.inputs; states = by (is_state (rule_of line.keyword)) refl }
  where
    by : (b : Bool) → is_state (rule_of line.keyword) ≡ b → (place id : ℕ) → slice_get (ids_of is_state lines) place ≡ Some id → other.states id ≡ step.states id
    by true is place id at = g.states (suc place) id (ap (λ (ids : List ℕ). slice_get ids (suc place)) (ids-kept line lines true is) ∙ at)
    by false is place id at = g.states place id (ap (λ (ids : List ℕ). slice_get ids place) (ids-kept line lines false is) ∙ at)

-- what holds of each line holds of the one at a place
at-place : (P : ℕ → Type 0) (lines : List Line) (place id : ℕ) → All (λ (line : Line). P line.id) lines → slice_get (map (λ (line : Line). line.id) lines) place ≡ Some id → P id
at-place P lines place id all at = by (slice_get lines place) refl
  where
    by : (o : Option Line) → slice_get lines place ≡ o → P id
    by None none = let no_id : None ≡ Some id = sym (slice_get-map (λ (line : Line). line.id) lines place ∙ ap (option_map (λ (line : Line). line.id)) none) ∙ at in absurd (cc)
    by (Some line) found =
        let same : Some line.id ≡ Some id = sym (slice_get-map (λ (line : Line). line.id) lines place ∙ ap (option_map (λ (line : Line). line.id)) found) ∙ at in
        let same_id : line.id ≡ id = cc in
        subst P same_id (subst (λ (l : Line). P l.id) (get_or_from_slice_get lines place line line found) (all place line (slice_get_within lines place line found)))

module _ (lines : List Line) (accepted : IsAccepted lines) (shown : List Line) (lines_same : (test : FormRule → Bool) → test forms.Output ≡ false → test forms.Bad ≡ false → lines_by_rule test shown ≡ lines_by_rule test lines)
    (width_same : (id w : ℕ) → IsValue (behind_all no_lines lines) id w → width_in shown id ≡ width_in lines id)
    (values_same : (step other : StepValues) (id w : ℕ) → SameGiven step other lines → IsValue (behind_all no_lines lines) id w → values_at shown other id ≡ values_at lines step id) where
  abbrev end : DeclaredIds
  end = behind_all no_lines lines

  abbrev fine : lines_fault no_lines lines ≡ None
  fine = fine-lines lines accepted

  pub states-own : All (λ (line : Line). IsValue end line.id (width_in lines line.id)) (lines_by_rule is_state lines)
  states-own = all-passing is_state (λ (line : Line). IsValue end line.id (width_in lines line.id)) lines (own-value is_state state-values lines fine accepted.forms)

  abbrev nothing : StepValues
  nothing = record { inputs = λ _. no_bits; states = λ _. no_bits }

  set-same : (test : FormRule → Bool) (all : Values) (s : ℕ) → test forms.Output ≡ false → test forms.Bad ≡ false → value_set test shown all s ≡ value_set test lines all s
  set-same test all s o b = ap (λ (ls : List Line). option_map (λ (line : Line). all (id_at line.arguments 2)) (find (λ (line : Line). nat_eq s (id_at line.arguments 1)) ls)) (lines_same test o b)

  -- the first values of states
  pub first-same : (s : ℕ) → IsValue end s (width_in lines s) → first_state_values shown s ≡ first_state_values lines s
  unfolding SameWidth
  first-same s own = by (find (sets is_init s) lines) refl
    where
      by : (o : Option Line) → find (sets is_init s) lines ≡ o → first_state_values shown s ≡ first_state_values lines s
      by None at =
          ap₂ (λ (o : Option BitVector) (w : ℕ). unwrap_or o (zero_at w)) (set-same is_init (values_at shown nothing) s refl refl ∙ set-by is_init lines (values_at shown nothing) s None at ∙ sym (set-by is_init lines (values_at lines nothing) s None at))
          (width_same s (width_in lines s) own)
      by (Some line) at =
          let w = (init-found lines no_lines s line fine accepted.forms at).0 in
          let same = values_same nothing nothing (id_at line.arguments 2) w.0 (record { inputs = refl; states = λ place id found. refl }) w.2 in
          ap (λ (o : Option BitVector). unwrap_or o (zero_at (width_in shown s)))
          (set-same is_init (values_at shown nothing) s refl refl ∙ set-by is_init lines (values_at shown nothing) s (Some line) at ∙ ap Some same)
          ∙ sym (ap (λ (o : Option BitVector). unwrap_or o (zero_at (width_in lines s))) (set-by is_init lines (values_at lines nothing) s (Some line) at))

  -- and those behind a step
  next-same : (v w : Values) (s : ℕ) → ((id width : ℕ) → IsValue end id width → w id ≡ v id) → (next : Line) × (find (sets is_next s) lines ≡ Some next) × SameWidth end s (id_at next.arguments 2) → next_values shown w s ≡ next_values lines v s
  unfolding SameWidth
  next-same v w s same (next, at, wide) =
      ap (λ (o : Option BitVector). unwrap_or o no_bits) (set-same is_next w s refl refl ∙ set-by is_next lines w s (Some next) at ∙ ap Some (same (id_at next.arguments 2) wide.0 wide.2) ∙ sym (set-by is_next lines v s (Some next) at))

  pub inputs-same : (given : List BitVector) → input_values shown given ≡ input_values lines given
  inputs-same given =
      ap (λ (ls : List Line). λ (id : ℕ). unwrap_or (lookup (nat_eq id) (zip (map (λ (line : Line). line.id) ls) given)) no_bits) (lines_same is_input refl refl)

  nexts-own : All (λ (line : Line). (next : Line) × (find (sets is_next line.id) lines ≡ Some next) × SameWidth end line.id (id_at next.arguments 2)) (lines_by_rule is_state lines)
  nexts-own = all-passing is_state (λ (line : Line). (next : Line) × (find (sets is_next line.id) lines ≡ Some next) × SameWidth end line.id (id_at next.arguments 2)) lines (next-of lines accepted)

  module _ (inputs : InputsByCycle) where
    given-at : (step : ℕ) → ((place id : ℕ) → slice_get (ids_of is_state lines) place ≡ Some id → states_at shown inputs step id ≡ states_at lines inputs step id)
        → SameGiven (record { inputs = input_values lines (inputs (step + 1)); states = states_at lines inputs step }) (record { inputs = input_values shown (inputs (step + 1)); states = states_at shown inputs step }) lines
    given-at step states = record { inputs = inputs-same (inputs (step + 1)); states = states }

    pub states-same : (step place id : ℕ) → slice_get (ids_of is_state lines) place ≡ Some id → states_at shown inputs step id ≡ states_at lines inputs step id
    states-same zero place id at = at-place (λ (s : ℕ). first_state_values shown s ≡ first_state_values lines s) (lines_by_rule is_state lines) place id (λ k d within. first-same (get_or (lines_by_rule is_state lines) k d).id (states-own k d within)) at
    states-same (suc step) place id at =
        at-place (λ (s : ℕ). next_values shown (values_in shown inputs step) s ≡ next_values lines (values_in lines inputs step) s) (lines_by_rule is_state lines) place id
        (λ k d within. next-same (values_in lines inputs step) (values_in shown inputs step) (get_or (lines_by_rule is_state lines) k d).id
        (λ i width is. values_same (record { inputs = input_values lines (inputs (step + 1)); states = states_at lines inputs step }) (record { inputs = input_values shown (inputs (step + 1)); states = states_at shown inputs step }) i width (given-at step (states-same step)) is)
        (nexts-own k d within)) at

    pub in-same : (step id w : ℕ) → IsValue end id w → values_in shown inputs step id ≡ values_in lines inputs step id
    in-same step id w is =
        values_same (record { inputs = input_values lines (inputs (step + 1)); states = states_at lines inputs step }) (record { inputs = input_values shown (inputs (step + 1)); states = states_at shown inputs step }) id w
        (given-at step (states-same step)) is
