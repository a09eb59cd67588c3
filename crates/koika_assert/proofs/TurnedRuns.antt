-- The text that shows bad lines beside outputs has the run of the text, and its outputs show both.
use Rattle.std.proofs.Common.{◌≡◌, ◌⊎◌, inl, inr, ◌+◌, ℕ, zero, suc, nat_eq, Bool, true, false, cond, List, [], ◌∷◌, Option, None, Some, get_or, map, refl, sym, ap, ap₂, ◌∙◌, subst, All}
use Rattle.std.specs.Prelude.{IfOk, Result, Ok, Err}
use Rattle.std.specs.List.{find, zip}
use Rattle.std.specs.Map.{lookup}
use Rattle.std.specs.Option.{option_map, unwrap_or}
use Rattle.std.proofs.lemmas.Bool.{eqb-true}
use Rattle.std.proofs.lemmas.List.Elements.{recursion_from_All}
use Rattle.std.proofs.lemmas.Simd.{map-map}
use Rattle.kw_bits.specs.BitVector.{BitVector, zero_at}
use Rattle.one_rule.specs.Run.{InputsByCycle}
use Rattle.btor2_text.specs.Forms.{kinds_of}
use Rattle.btor2_text.specs.Printable.{ArePrintable, FitKinds}
use Rattle.btor2_text.specs.declared.keyword.Keyword.{Keyword}
use Rattle.btor2_text.specs.declared.keyword.Keyword.TheVariants as keywords
use Rattle.btor2_text.specs.declared.kind.ArgumentKind.{ArgumentKind}
use Rattle.btor2_text.specs.declared.kind.ArgumentKind.TheVariants as kinds
use Rattle.btor2_text.specs.declared.line.Argument.{Argument}
use Rattle.btor2_text.specs.declared.line.Line.{Line}
use Rattle.btor2_model.specs.Acceptance.{IsAccepted, lines_fault}
use Rattle.btor2_model.specs.Rules.{is_bad, is_init, is_input, is_next, is_output, is_state, rule_of, widths_agree}
use Rattle.btor2_model.specs.Run.{StepValues, Values, first_state_values, input_values, lines_by_rule, next_values, no_bits, states_at, value_set, values_at, values_in, values_with, width_in}
use Rattle.btor2_model.specs.Scope.{DeclaredIds, behind_all, id_at, measures, no_lines, width_wanted}
use Rattle.btor2_model.specs.declared.meaning.IdMeaning.{IdMeaning}
use Rattle.btor2_model.specs.declared.rule.FormRule.{FormRule}
use Rattle.btor2_model.specs.declared.rule.FormRule.TheVariants as forms
use Rattle.btor2_model.proofs.Ends.{measured-widths, wanted-stays}
use Rattle.btor2_model.proofs.Filled.{each-measure, value-alone}
use Rattle.btor2_model.proofs.KindsByRule.{kinds-by, kinds_by}
use Rattle.btor2_model.proofs.Declared.{IsValue, all-passing, each-fine, each-line, fine-lines, width-is}
use Rattle.btor2_net.specs.Translations.{line_name}
use Rattle.koika_assert.specs.Bads.{ShowsBeside, as_output, bads_beside_outputs, is_shown, turned}
use Rattle.koika_assert.proofs.TurnedLines.{behind-all-turned, turned-cases, values-turned, with_keyword}

-- ---- lines by rule

stays-line : (line : Line) → as_output line.keyword ≡ line.keyword → turned line ≡ line
stays-line line is = ap (with_keyword line) is

same-line : (test : FormRule → Bool) (line : Line) (lines : List Line) → test forms.Output ≡ false → test forms.Bad ≡ false → lines_by_rule test (bads_beside_outputs lines) ≡ lines_by_rule test lines
    → (line.keyword ≡ keywords.Bad) ⊎ (as_output line.keyword ≡ line.keyword) → lines_by_rule test (bads_beside_outputs (line ∷ lines)) ≡ lines_by_rule test (line ∷ lines)
same-line test line lines o b more (inl is) =
    let rest = lines_by_rule test (bads_beside_outputs lines) in
    ap (λ (c : Bool). cond c (turned line ∷ rest) rest) (ap (λ (k : Keyword). test (rule_of (as_output k))) is ∙ o) ∙ more
    ∙ sym (ap (λ (c : Bool). cond c (line ∷ lines_by_rule test lines) (lines_by_rule test lines)) (ap (λ (k : Keyword). test (rule_of k)) is ∙ b))
same-line test line lines o b more (inr is) =
    ap (λ (l : Line). lines_by_rule test (l ∷ bads_beside_outputs lines)) (stays-line line is) ∙ ap (λ (ls : List Line). cond (test (rule_of line.keyword)) (line ∷ ls) ls) more

-- the lines that are neither outputs nor bad lines are the same
lines-same : (test : FormRule → Bool) (lines : List Line) → test forms.Output ≡ false → test forms.Bad ≡ false → lines_by_rule test (bads_beside_outputs lines) ≡ lines_by_rule test lines
lines-same test [] o b = refl
lines-same test (line ∷ lines) o b = same-line test line lines o b (lines-same test lines o b) (turned-cases line.keyword)

shown-turned : (keyword : Keyword) → is_output (rule_of (as_output keyword)) ≡ is_shown (rule_of keyword)
shown-turned keywords.Output = refl
shown-turned keywords.Bad = refl
shown-turned other = refl

map-cond : (b : Bool) (line : Line) (lines : List Line) → cond b (turned line ∷ map turned lines) (map turned lines) ≡ map turned (cond b (line ∷ lines) lines)
map-cond true line lines = refl
map-cond false line lines = refl

-- the outputs are the outputs and bad lines
outputs-are : (lines : List Line) → lines_by_rule is_output (bads_beside_outputs lines) ≡ map turned (lines_by_rule is_shown lines)
outputs-are [] = refl
outputs-are (line ∷ lines) =
    ap₂ (λ (b : Bool) (rest : List Line). cond b (turned line ∷ rest) rest) (shown-turned line.keyword) (outputs-are lines)
    ∙ map-cond (is_shown (rule_of line.keyword)) line (lines_by_rule is_shown lines)

-- ---- bad lines

bad-rule : (rule : FormRule) → is_bad rule ≡ true → rule ≡ forms.Bad
bad-rule forms.Bad is = refl
bad-rule other is = absurd (cc)

-- a bad line names a value of one bit
pub bad-value : (lines : List Line) → lines_fault no_lines lines ≡ None → ArePrintable lines → All (λ (line : Line). is_bad (rule_of line.keyword) ≡ true → IsValue (behind_all no_lines lines) (id_at line.arguments 0) 1) lines
bad-value lines fine forms =
    each-line is_bad (λ scope line. IsValue scope (id_at line.arguments 0) 1)
    (λ scope line rest line_fine fits passes.
    let each = each-fine scope line rest line_fine in
    let (m, measured, widths) = measured-widths scope line each.0 in
    let of = bad-rule (rule_of line.keyword) passes in
    let form : kinds_of line.keyword ≡ kinds.Value ∷ [] = kinds-by line.keyword ∙ ap kinds_by of in
    let (a, is) = value-alone line.arguments (subst (λ (ks : List ArgumentKind). FitKinds ks line.arguments) form fits) in
    let w = (each-measure (width_wanted kinds.Value (scope.meanings a)) (Some 0) (Some 0) (Some 0) m (sym (ap (measures scope (kinds.Value ∷ [])) is) ∙ ap (λ (ks : List ArgumentKind). measures scope ks line.arguments) (sym form) ∙ measured)).0 in
    let one = eqb-true m.first 1 (sym (ap (λ (r : FormRule). widths_agree r m) of) ∙ widths) in
    let named : id_at line.arguments 0 ≡ a = ap (λ (given : List Argument). id_at given 0) is in
    subst (λ (id : ℕ). IsValue (behind_all scope (line ∷ rest)) id 1) (sym named) (wanted-stays (line ∷ rest) scope a 1 line_fine (w ∙ ap Some one)))
    lines no_lines fine forms

-- ---- runs

module _ (lines : List Line) where
  abbrev shown : List Line
  shown = bads_beside_outputs lines

  width-same : width_in shown ≡ width_in lines
  width-same =
      let by : DeclaredIds → ℕ → ℕ = λ s id. unwrap_or (option_map (λ (m : IdMeaning). m.width) (s.meanings id)) 0 in
      ap by (behind-all-turned no_lines lines)

  values-same : (step : StepValues) → values_at shown step ≡ values_at lines step
  values-same step = values-turned step no_lines (λ _. no_bits) lines

  -- the values that lines of a rule set states to
  set-same : (test : FormRule → Bool) (values : Values) → test forms.Output ≡ false → test forms.Bad ≡ false → value_set test shown values ≡ value_set test lines values
  set-same test values o b =
      let by : List Line → ℕ → Option BitVector = λ ls s. option_map (λ (line : Line). values (id_at line.arguments 2)) (find (λ (line : Line). nat_eq s (id_at line.arguments 1)) ls) in
      ap by (lines-same test lines o b)

  abbrev nothing : StepValues
  nothing = record { inputs = λ _. no_bits; states = λ _. no_bits }

  first-same : first_state_values shown ≡ first_state_values lines
  first-same =
      let by : (ℕ → Option BitVector) → (ℕ → ℕ) → Values = λ o w s. unwrap_or (o s) (zero_at (w s)) in
      ap₂ by
      (ap (value_set is_init shown) (values-same nothing) ∙ set-same is_init (values_at lines nothing) refl refl) width-same

  inputs-same : (given : List BitVector) → input_values shown given ≡ input_values lines given
  inputs-same given =
      let by : List Line → Values = λ ls id. unwrap_or (lookup (nat_eq id) (zip (map (λ (line : Line). line.id) ls) given)) no_bits in
      ap by (lines-same is_input lines refl refl)

  with-same : (given : List BitVector) (states : Values) → values_with shown given states ≡ values_with lines given states
  with-same given states =
      values-same (record { inputs = input_values shown given; states = states })
      ∙ ap (λ (i : Values). values_at lines (record { inputs = i; states = states })) (inputs-same given)

  next-same : (values : Values) → next_values shown values ≡ next_values lines values
  next-same values =
      let by : (ℕ → Option BitVector) → Values = λ o s. unwrap_or (o s) no_bits in
      ap by (set-same is_next values refl refl)

  module _ (inputs : InputsByCycle) where
    states-same : (step : ℕ) → states_at shown inputs step ≡ states_at lines inputs step
    states-same zero = first-same
    states-same (suc step) =
        ap (λ (s : Values). next_values shown (values_with shown (inputs (step + 1)) s)) (states-same step)
        ∙ ap (next_values shown) (with-same (inputs (step + 1)) (states_at lines inputs step))
        ∙ next-same (values_in lines inputs step)

    in-same : (step : ℕ) → values_in shown inputs step ≡ values_in lines inputs step
    in-same step = ap (values_with shown (inputs (step + 1))) (states-same step) ∙ with-same (inputs (step + 1)) (states_at lines inputs step)

  -- what is told of the outputs
  outputs-told : {X : Type 0} (f : ℕ → X) → map (λ (line : Line). f (id_at line.arguments 0)) (lines_by_rule is_output shown) ≡ map (λ (line : Line). f (id_at line.arguments 0)) (lines_by_rule is_shown lines)
  outputs-told {X} f =
      ap (map (λ (line : Line). f (id_at line.arguments 0))) (outputs-are lines) ∙ map-map (λ (line : Line). f (id_at line.arguments 0)) turned (lines_by_rule is_shown lines)

  module _ (accepted : IsAccepted lines) where
    bits : All (λ (line : Line). width_in lines (id_at line.arguments 0) ≡ 1) (lines_by_rule is_bad lines)
    bits =
        let own = all-passing is_bad (λ (line : Line). IsValue (behind_all no_lines lines) (id_at line.arguments 0) 1) lines (bad-value lines (fine-lines lines accepted) accepted.forms) in
        λ k d within. width-is (behind_all no_lines lines) (id_at (get_or (lines_by_rule is_bad lines) k d).arguments 0) 1 (own k d within)

    pub shows : ShowsBeside lines shown
    shows = record {
      inputs = ap (map line_name) (lines-same is_input lines refl refl);
      input_widths = ap₂ (λ (w : ℕ → ℕ) (ls : List Line). map w (map (λ (line : Line). line.id) ls)) width-same (lines-same is_input lines refl refl);
      states = ap (map line_name) (lines-same is_state lines refl refl);
      state_widths = ap₂ (λ (w : ℕ → ℕ) (ls : List Line). map w (map (λ (line : Line). line.id) ls)) width-same (lines-same is_state lines refl refl);
      outputs = outputs-are lines;
      widths = outputs-told (width_in shown) ∙ ap (λ (w : ℕ → ℕ). map (λ (line : Line). w (id_at line.arguments 0)) (lines_by_rule is_shown lines)) width-same;
      one_bit = recursion_from_All (λ (line : Line). width_in lines (id_at line.arguments 0) ≡ 1) (lines_by_rule is_bad lines) bits;
      first = ap₂ (λ (v : Values) (ls : List Line). map v (map (λ (line : Line). line.id) ls)) first-same (lines-same is_state lines refl refl);
      later = λ given step. ap₂ (λ (v : Values) (ls : List Line). map v (map (λ (line : Line). line.id) ls)) (states-same given (step + 1)) (lines-same is_state lines refl refl);
      values = λ given step. outputs-told (values_in shown given step) ∙ ap (λ (v : Values). map (λ (line : Line). v (id_at line.arguments 0)) (lines_by_rule is_shown lines)) (in-same given step);
    }

-- what follows from what holds of an answer that is there
pub if_ok-weaker : {T E : Type 0} (r : Result T E) (P Q : T → Type 0) → ((x : T) → P x → Q x) → IfOk r P → IfOk r Q
if_ok-weaker (Ok x) P Q more holds = more x holds
if_ok-weaker (Err e) P Q more holds = holds
