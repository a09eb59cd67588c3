-- A text with bad lines behind it has the text's parts and run, and its bad lines show the flags that were marked.
use Rattle.std.proofs.Common.{◌≡◌, ℕ, zero, suc, ◌+◌, ◌<◌, ◌^◌, nat_eq, Bool, true, false, cond, filter, List, [], ◌∷◌, ◌++◌, Option, None, Some, length, get_or, map, refl, sym, ap, ap₂, ◌∙◌, subst, arith, All}
use Rattle.std.specs.Prelude.{IfOk, Result, Ok, Err, slice_get, slice_index_or}
use Rattle.std.proofs.lemmas.Result.{IfOk-weaker}
use Rattle.std.specs.List.{cons_option, filter_map}
use Rattle.std.specs.Option.{option_map, option_to_list, unwrap_or}
use Rattle.std.proofs.lemmas.Bool.{eqb-true}
use Rattle.std.proofs.lemmas.List.{map-append}
use Rattle.std.proofs.lemmas.Option.{get_or_from_slice_get, slice_get-get_or, slice_get-map, slice_get_within}
use Rattle.std.proofs.lemmas.Simd.{map-map}
use Rattle.kw_bits.specs.BitVector.{BitVector}
use Rattle.one_rule.specs.Run.{InputsByCycle}
use Rattle.one_rule.specs.declared.rows.Row.{Row}
use Rattle.btor2_text.specs.Forms.{kinds_of}
use Rattle.btor2_text.specs.Printable.{ArePrintable, AreTokens, FitKinds}
use Rattle.btor2_text.specs.declared.keyword.Keyword.TheVariants as keywords
use Rattle.btor2_text.specs.declared.kind.ArgumentKind.{ArgumentKind}
use Rattle.btor2_text.specs.declared.kind.ArgumentKind.TheVariants as kinds
use Rattle.btor2_text.specs.declared.line.Argument.{Argument}
use Rattle.btor2_text.specs.declared.line.Argument.TheVariants as arguments
use Rattle.btor2_text.specs.declared.line.Line.{Line}
use Rattle.btor2_model.specs.Acceptance.{IsAccepted}
use Rattle.btor2_model.specs.Rules.{is_bad, is_input, is_output, is_state, rule_of}
use Rattle.btor2_model.specs.Run.{first_row, first_state_values, flag_ids, ids_of, lines_by_rule, row_behind, rows_behind, states_at, values_in, width_in}
use Rattle.btor2_model.specs.Scope.{DeclaredIds, behind_all, id_at, no_lines}
use Rattle.btor2_model.specs.declared.meaning.IdMeaning.{IdMeaning}
use Rattle.btor2_model.specs.declared.rule.FormRule.{FormRule}
use Rattle.btor2_model.specs.declared.rule.FormRule.TheVariants as forms
use Rattle.btor2_model.proofs.Ends.{wanted-some}
use Rattle.btor2_model.proofs.Filled.{value-alone}
use Rattle.btor2_model.proofs.KindsByRule.{kinds-by, kinds_by}
use Rattle.btor2_net.specs.Pages.{Page}
use Rattle.btor2_net.specs.Translations.{AreCounted, line_name, output_widths, widths_in}
use Rattle.btor2_net.proofs.Made.{alike}
use Rattle.btor2_model.proofs.Declared.{IsValue, all-passing, fine-lines, input-values, output-value, own-value, state-values, output-rule}
use Rattle.koika_assert.specs.Bads.{HasSameParts, RunsAlike, ShowsMarks, bad_lines, flag_lines, is_violated, marked, with_bads}
use Rattle.koika_assert.proofs.AddedBads.{HasBads, IsFlagOn, good, has-bads, no-bads, page, still-accepted, values-same}
use Rattle.koika_assert.proofs.SameRuns.{in-same, states-same}
use Rattle.koika_assert.proofs.TurnedRuns.{bad-value}

-- and on each id
alike-ids : {X : Type 0} (f g : ℕ → X) (ids : List ℕ) → ((k id : ℕ) → slice_get ids k ≡ Some id → f id ≡ g id) → map f ids ≡ map g ids
alike-ids {X} f g [] all = refl
alike-ids {X} f g (id ∷ ids) all = ap₂ (λ (x : X) (xs : List X). x ∷ xs) (all 0 id refl) (alike-ids f g ids (λ k i at. all (suc k) i at))

-- the ids that pass a test are those of the lines that do
filtered : (test : ℕ → Bool) (id_of : Line → ℕ) (lines : List Line) → filter test (map id_of lines) ≡ map id_of (filter (λ (line : Line). test (id_of line)) lines)
filtered test id_of [] = refl
filtered test id_of (line ∷ lines) = by (test (id_of line)) refl (filtered test id_of lines)
  where
    by : (b : Bool) → test (id_of line) ≡ b → filter test (map id_of lines) ≡ map id_of (filter (λ (l : Line). test (id_of l)) lines)
        → filter test (map id_of (line ∷ lines)) ≡ map id_of (filter (λ (l : Line). test (id_of l)) (line ∷ lines))
    by true is rest =
        ap (λ (b : Bool). cond b (id_of line ∷ filter test (map id_of lines)) (filter test (map id_of lines))) is ∙ ap (λ (ids : List ℕ). id_of line ∷ ids) rest
        ∙ sym (ap (λ (b : Bool). map id_of (cond b (line ∷ filter (λ (l : Line). test (id_of l)) lines) (filter (λ (l : Line). test (id_of l)) lines))) is)
    by false is rest =
        ap (λ (b : Bool). cond b (id_of line ∷ filter test (map id_of lines)) (filter test (map id_of lines))) is ∙ rest
        ∙ sym (ap (λ (b : Bool). map id_of (cond b (line ∷ filter (λ (l : Line). test (id_of l)) lines) (filter (λ (l : Line). test (id_of l)) lines))) is)

-- what passes a test is there, and passes
passing : (P : Line → Type 0) (test : Line → Bool) (lines : List Line) → ((k : ℕ) (line : Line) → slice_get lines k ≡ Some line → test line ≡ true → P line) → (k : ℕ) (line : Line) → slice_get (filter test lines) k ≡ Some line → P line
passing P test [] all k line at = absurd (cc)
passing P test (first ∷ lines) all k line at = by (test first) refl (λ j l found. passing P test lines (λ i m one passes. all (suc i) m one passes) j l found) k at
  where
    one : test first ≡ true → ((j : ℕ) (l : Line) → slice_get (filter test lines) j ≡ Some l → P l) → (j : ℕ) → slice_get (first ∷ filter test lines) j ≡ Some line → P line
    one is rest zero found = let same : first ≡ line = cc in subst P same (all 0 first refl is)
    one is rest (suc j) found = rest j line found

    by : (b : Bool) → test first ≡ b → ((j : ℕ) (l : Line) → slice_get (filter test lines) j ≡ Some l → P l) → (j : ℕ) → slice_get (cond (test first) (first ∷ filter test lines) (filter test lines)) j ≡ Some line → P line
    by true is rest j found = one is rest j (sym (ap (λ (b : Bool). slice_get (cond b (first ∷ filter test lines) (filter test lines)) j) is) ∙ found)
    by false is rest j found = rest j line (sym (ap (λ (b : Bool). slice_get (cond b (first ∷ filter test lines) (filter test lines)) j) is) ∙ found)

-- what holds of all items holds of those that are picked
pub picked-out : {A : Type 0} (P : A → Type 0) (items : List A) (numbers : List ℕ) → ((k : ℕ) (x : A) → slice_get items k ≡ Some x → P x) → (k : ℕ) (x : A) → slice_get (filter_map (slice_get items) numbers) k ≡ Some x → P x
picked-out {A} P items [] all k x at = absurd (cc)
picked-out {A} P items (number ∷ numbers) all k x at = by (slice_get items number) refl (λ j found. picked-out P items numbers all j x found) k at
  where
    one : (y : A) → slice_get items number ≡ Some y → ((j : ℕ) → slice_get (filter_map (slice_get items) numbers) j ≡ Some x → P x) → (j : ℕ) → slice_get (y ∷ filter_map (slice_get items) numbers) j ≡ Some x → P x
    one y is rest zero found = let same : y ≡ x = cc in subst P same (all number y is)
    one y is rest (suc j) found = rest j found

    by : (o : Option A) → slice_get items number ≡ o → ((j : ℕ) → slice_get (filter_map (slice_get items) numbers) j ≡ Some x → P x)
        → (j : ℕ) → slice_get (cons_option (slice_get items number) (filter_map (slice_get items) numbers)) j ≡ Some x → P x
    by None is rest j found = rest j (sym (ap (λ (o : Option A). slice_get (cons_option o (filter_map (slice_get items) numbers)) j) is) ∙ found)
    by (Some y) is rest j found = one y is rest j (sym (ap (λ (o : Option A). slice_get (cons_option o (filter_map (slice_get items) numbers)) j) is) ∙ found)

-- some line
no_line : Line
no_line = record { id = 0; keyword = keywords.Bad; arguments = []; symbol = None; number = 0 }

-- what is picked and mapped is picked of what was mapped
mapped-picks : (f : Line → Bool) (items : List Line) (numbers : List ℕ) → All (λ (number : ℕ). number < length items) numbers
    → map f (filter_map (slice_get items) numbers) ≡ map (λ (number : ℕ). slice_index_or (map f items) number false) numbers
mapped-picks f items [] all = refl
mapped-picks f items (number ∷ numbers) all = by (slice_get items number) refl (mapped-picks f items numbers (λ k d within. all (suc k) d (omega (arith, within))))
  where
    inside : number < length items
    inside = all 0 number (omega arith)

    by : (o : Option Line) → slice_get items number ≡ o → map f (filter_map (slice_get items) numbers) ≡ map (λ (n : ℕ). slice_index_or (map f items) n false) numbers
        → map f (filter_map (slice_get items) (number ∷ numbers)) ≡ map (λ (n : ℕ). slice_index_or (map f items) n false) (number ∷ numbers)
    by None is rest = let some = slice_get-get_or items number no_line inside in absurd (cc)
    by (Some line) is rest =
        ap (λ (o : Option Line). map f (cons_option o (filter_map (slice_get items) numbers))) is
        ∙ ap₂ (λ (x : Bool) (xs : List Bool). x ∷ xs) (sym (get_or_from_slice_get (map f items) number (f line) false (slice_get-map f items number ∙ ap (option_map f) is))) rest

module _ (lines : List Line) (accepted : IsAccepted lines) (q : Page) (bads : List Line) (h : HasBads (page lines) q bads) where
  abbrev end : DeclaredIds
  end = behind_all no_lines lines

  lines-same : (test : FormRule → Bool) → test forms.Output ≡ false → test forms.Bad ≡ false → lines_by_rule test q.lines ≡ lines_by_rule test lines
  lines-same test o b = h.same test b

  width-same : (id w : ℕ) → IsValue end id w → width_in q.lines id ≡ width_in lines id
  width-same id w is =
      let m = wanted-some (end.meanings id) w is in
      ap (λ (o : Option IdMeaning). unwrap_or (option_map (λ (x : IdMeaning). x.width) o) 0) (h.keeps.means id m.0 m.1 ∙ sym m.1)

  in-marked : (inputs : InputsByCycle) (step id w : ℕ) → IsValue end id w → values_in q.lines inputs step id ≡ values_in lines inputs step id
  in-marked = in-same lines accepted q.lines lines-same width-same (values-same lines accepted q bads h)

  states-marked : (inputs : InputsByCycle) (step place id : ℕ) → slice_get (ids_of is_state lines) place ≡ Some id → states_at q.lines inputs step id ≡ states_at lines inputs step id
  states-marked = states-same lines accepted q.lines lines-same width-same (values-same lines accepted q bads h)

  -- the ids of a rule's lines, and the names and widths of those lines
  ids-same : (test : FormRule → Bool) → test forms.Bad ≡ false → ids_of test q.lines ≡ ids_of test lines
  ids-same test b = ap (map (λ (line : Line). line.id)) (h.same test b)

  widths-same : (test : FormRule → Bool) → test forms.Bad ≡ false → All (λ (line : Line). test (rule_of line.keyword) ≡ true → IsValue end line.id (width_in lines line.id)) lines → widths_in test q.lines ≡ widths_in test lines
  widths-same test b own =
      ap (map (width_in q.lines)) (ids-same test b) ∙ map-map (width_in q.lines) (λ (line : Line). line.id) (lines_by_rule test lines)
      ∙ alike (λ (line : Line). width_in q.lines line.id) (λ (line : Line). width_in lines line.id) (lines_by_rule test lines)
      (all-passing test (λ (line : Line). width_in q.lines line.id ≡ width_in lines line.id) lines (λ k d within passes. let id = (get_or lines k d).id in width-same id (width_in lines id) (own k d within passes)))
      ∙ sym (map-map (width_in lines) (λ (line : Line). line.id) (lines_by_rule test lines))

  outputs-own : All (λ (line : Line). IsValue end (id_at line.arguments 0) (width_in lines (id_at line.arguments 0))) (lines_by_rule is_output lines)
  outputs-own = all-passing is_output (λ (line : Line). IsValue end (id_at line.arguments 0) (width_in lines (id_at line.arguments 0))) lines (output-value lines (fine-lines lines accepted) accepted.forms)

  output-widths : map (λ (line : Line). width_in q.lines (id_at line.arguments 0)) (lines_by_rule is_output lines) ≡ output_widths lines
  output-widths =
      alike (λ (line : Line). width_in q.lines (id_at line.arguments 0)) (λ (line : Line). width_in lines (id_at line.arguments 0)) (lines_by_rule is_output lines)
      (λ k d within. let id = id_at (get_or (lines_by_rule is_output lines) k d).arguments 0 in width-same id (width_in lines id) (outputs-own k d within))

  pub same-parts : HasSameParts lines q.lines
  same-parts = record {
    inputs = ap (map line_name) (h.same is_input refl);
    input_widths = widths-same is_input refl (own-value is_input input-values lines (fine-lines lines accepted) accepted.forms);
    states = ap (map line_name) (h.same is_state refl);
    state_widths = widths-same is_state refl (own-value is_state state-values lines (fine-lines lines accepted) accepted.forms);
    outputs = ap (map line_name) (h.same is_output refl);
    output_widths = ap (map (λ (line : Line). width_in q.lines (id_at line.arguments 0))) (h.same is_output refl) ∙ output-widths;
  }

  -- the flags
  flag-test : (outputs : List Line) → All (λ (line : Line). width_in q.lines (id_at line.arguments 0) ≡ width_in lines (id_at line.arguments 0)) outputs
      → filter (λ (line : Line). nat_eq (width_in q.lines (id_at line.arguments 0)) 1) outputs ≡ filter (λ (line : Line). nat_eq (width_in lines (id_at line.arguments 0)) 1) outputs
  flag-test [] all = refl
  flag-test (line ∷ outputs) all =
      let rest = flag-test outputs (λ k d within. all (suc k) d (omega (arith, within))) in
      ap₂ (λ (w : ℕ) (ls : List Line). cond (nat_eq w 1) (line ∷ ls) ls) (all 0 line (omega arith)) rest

  flags-are : flag_ids lines ≡ map (λ (line : Line). id_at line.arguments 0) (flag_lines lines)
  flags-are = filtered (λ (id : ℕ). nat_eq (width_in lines id) 1) (λ (line : Line). id_at line.arguments 0) (lines_by_rule is_output lines)

  flags-same : flag_ids q.lines ≡ flag_ids lines
  flags-same =
      ap (λ (ls : List Line). filter (λ (id : ℕ). nat_eq (width_in q.lines id) 1) (map (λ (line : Line). id_at line.arguments 0) ls)) (h.same is_output refl)
      ∙ filtered (λ (id : ℕ). nat_eq (width_in q.lines id) 1) (λ (line : Line). id_at line.arguments 0) (lines_by_rule is_output lines)
      ∙ ap (map (λ (line : Line). id_at line.arguments 0)) (flag-test (lines_by_rule is_output lines) (λ k d within. let id = id_at (get_or (lines_by_rule is_output lines) k d).arguments 0 in width-same id (width_in lines id) (outputs-own k d within)))
      ∙ sym flags-are

  -- each names a value of one bit
  flag-value : (k : ℕ) (line : Line) → slice_get (flag_lines lines) k ≡ Some line → IsValue end (id_at line.arguments 0) 1
  flag-value =
      passing (λ (line : Line). IsValue end (id_at line.arguments 0) 1) (λ (line : Line). nat_eq (width_in lines (id_at line.arguments 0)) 1) (lines_by_rule is_output lines)
      (λ k line at narrow.
      let own = subst (λ (l : Line). IsValue end (id_at l.arguments 0) (width_in lines (id_at l.arguments 0))) (get_or_from_slice_get (lines_by_rule is_output lines) k line line at)
      (outputs-own k line (slice_get_within (lines_by_rule is_output lines) k line at)) in
      own ∙ ap Some (eqb-true (width_in lines (id_at line.arguments 0)) 1 narrow))

  -- rows
  rows-same : (regs others : List BitVector) (fired flags : List Bool) → regs ≡ others → fired ≡ flags → (let r : Row = record { regs = regs; fired = fired } in r) ≡ record { regs = others; fired = flags }
  rows-same regs others fired flags same_regs same_flags = ap₂ (λ (rs : List BitVector) (bs : List Bool). let r : Row = record { regs = rs; fired = bs } in r) same_regs same_flags

  row-same : (inputs : InputsByCycle) (step : ℕ) → row_behind q.lines inputs step ≡ row_behind lines inputs step
  row-same inputs step =
      rows-same (map (states_at q.lines inputs (step + 1)) (ids_of is_state q.lines)) (map (states_at lines inputs (step + 1)) (ids_of is_state lines))
      (map (λ (id : ℕ). nat_eq (values_in q.lines inputs step id).number 1) (flag_ids q.lines)) (map (λ (id : ℕ). nat_eq (values_in lines inputs step id).number 1) (flag_ids lines))
      (ap (map (states_at q.lines inputs (step + 1))) (ids-same is_state refl)
      ∙ alike-ids (states_at q.lines inputs (step + 1)) (states_at lines inputs (step + 1)) (ids_of is_state lines) (states-marked inputs (step + 1)))
      (ap (map (λ (id : ℕ). nat_eq (values_in q.lines inputs step id).number 1)) (flags-same ∙ flags-are)
      ∙ map-map (λ (id : ℕ). nat_eq (values_in q.lines inputs step id).number 1) (λ (line : Line). id_at line.arguments 0) (flag_lines lines)
      ∙ alike (λ (line : Line). nat_eq (values_in q.lines inputs step (id_at line.arguments 0)).number 1) (λ (line : Line). nat_eq (values_in lines inputs step (id_at line.arguments 0)).number 1) (flag_lines lines)
      (λ k d within.
      let line = get_or (flag_lines lines) k d in
      ap (λ (v : BitVector). nat_eq v.number 1) (in-marked inputs step (id_at line.arguments 0) 1 (flag-value k line (slice_get-get_or (flag_lines lines) k d within))))
      ∙ sym (map-map (λ (id : ℕ). nat_eq (values_in lines inputs step id).number 1) (λ (line : Line). id_at line.arguments 0) (flag_lines lines))
      ∙ sym (ap (map (λ (id : ℕ). nat_eq (values_in lines inputs step id).number 1)) flags-are))

  first-marked : first_row q.lines ≡ first_row lines
  first-marked =
      rows-same (map (first_state_values q.lines) (ids_of is_state q.lines)) (map (first_state_values lines) (ids_of is_state lines)) (map (λ (id : ℕ). false) (flag_ids q.lines)) (map (λ (id : ℕ). false) (flag_ids lines))
      (ap (map (first_state_values q.lines)) (ids-same is_state refl)
      ∙ alike-ids (first_state_values q.lines) (first_state_values lines) (ids_of is_state lines) (λ k id at. states-marked (λ cycle. []) 0 k id at))
      (ap (map (λ (id : ℕ). false)) flags-same)

  all-rows : (inputs : InputsByCycle) (n : ℕ) → rows_behind q.lines inputs n ≡ rows_behind lines inputs n
  all-rows inputs zero = refl
  all-rows inputs (suc n) = ap₂ (λ (rows : List Row) (row : Row). rows ++ row ∷ []) (all-rows inputs n) (row-same inputs n)

  pub runs-alike : RunsAlike lines q.lines
  runs-alike inputs n = ap₂ (λ (row : Row) (rows : List Row). row ∷ rows) first-marked (all-rows inputs n)

-- the bad lines that were added, by the outputs
violated-by : (lines all : List Line) (inputs : InputsByCycle) (step id : ℕ) (outputs : List Line)
    → ((k : ℕ) (line : Line) → slice_get outputs k ≡ Some line → values_in all inputs step (id_at line.arguments 0) ≡ values_in lines inputs step (id_at line.arguments 0))
    → map (is_violated all inputs step) (bad_lines id outputs) ≡ map (is_violated lines inputs step) outputs
violated-by lines all inputs step id [] same = refl
violated-by lines all inputs step id (output ∷ outputs) same =
    ap₂ (λ (x : Bool) (xs : List Bool). x ∷ xs) (ap (λ (v : BitVector). nat_eq v.number 1) (same 0 output refl)) (violated-by lines all inputs step (id + 1) outputs (λ k line at. same (suc k) line at))

module _ (lines : List Line) (accepted : IsAccepted lines) (counted : AreCounted lines) (marks : List ℕ) (within : All (λ (mark : ℕ). mark < length (flag_lines lines)) marks) where
  -- a line's form
  printable-at : (ls : List Line) (k : ℕ) (line : Line) → ArePrintable ls → slice_get ls k ≡ Some line → FitKinds (kinds_of line.keyword) line.arguments × AreTokens (option_to_list line.symbol)
  printable-at [] k line are at = absurd (cc)
  printable-at (first ∷ ls) zero line are at = let same : first ≡ line = cc in subst (λ (l : Line). FitKinds (kinds_of l.keyword) l.arguments × AreTokens (option_to_list l.symbol)) same (are.0.arguments, are.0.symbol)
  printable-at (first ∷ ls) (suc k) line are at = printable-at ls k line are.1 at

  -- an output's form
  record IsWritten (line : Line) : Type 0 where
    value : ℕ
    is : line.arguments ≡ arguments.Id value ∷ []
    token : AreTokens (option_to_list line.symbol)

  outputs-written : (k : ℕ) (line : Line) → slice_get (lines_by_rule is_output lines) k ≡ Some line → IsWritten line
  outputs-written =
      passing IsWritten (λ (line : Line). is_output (rule_of line.keyword)) lines
      (λ k line at output.
      let form = printable-at lines k line accepted.forms at in
      let kinds_are : kinds_of line.keyword ≡ kinds.Value ∷ [] = kinds-by line.keyword ∙ ap kinds_by (output-rule (rule_of line.keyword) output) in
      let a = value-alone line.arguments (subst (λ (ks : List ArgumentKind). FitKinds ks line.arguments) kinds_are form.0) in
      record { value = a.0; is = a.1; token = form.1 })

  -- no bad line yet
  empty : HasBads (page lines) (page lines) []
  empty = no-bads (page lines) (good lines accepted counted)

  flags-on : (k : ℕ) (line : Line) → slice_get (flag_lines lines) k ≡ Some line → IsFlagOn (page lines) line
  flags-on k line at =
      let w = passing IsWritten (λ (l : Line). nat_eq (width_in lines (id_at l.arguments 0)) 1) (lines_by_rule is_output lines) (λ j l found narrow. outputs-written j l found) k line at in
      let named : id_at line.arguments 0 ≡ w.value = ap (λ (given : List Argument). id_at given 0) w.is in
      record { value = w.value; is = w.is; named = subst (λ (id : ℕ). IsValue (behind_all no_lines lines) id 1) named (flag-value lines accepted (page lines) [] empty k line at); token = w.token }

  abbrev outputs : List Line
  outputs = marked lines marks

  added : (q : Page) × HasBads (page lines) q (bad_lines (length lines + 1) outputs)
  added = has-bads (page lines) outputs (good lines accepted counted) (λ k line at. picked-out (IsFlagOn (page lines)) (flag_lines lines) marks flags-on k line at)

  added-is : added.0.lines ≡ with_bads lines marks
  added-is = added.1.lines

  pub marked-accepted : length (with_bads lines marks) < 2 ^ 64 → IsAccepted (with_bads lines marks)
  marked-accepted few =
      subst IsAccepted added-is (still-accepted lines accepted added.0 (bad_lines (length lines + 1) outputs) added.1 (subst (λ (ls : List Line). length ls < 2 ^ 64) (sym added-is) few))

  pub marked-parts : HasSameParts lines (with_bads lines marks)
  marked-parts = subst (HasSameParts lines) added-is (same-parts lines accepted added.0 (bad_lines (length lines + 1) outputs) added.1)

  pub marked-run : RunsAlike lines (with_bads lines marks)
  marked-run = subst (RunsAlike lines) added-is (runs-alike lines accepted added.0 (bad_lines (length lines + 1) outputs) added.1)

  pub marked-ids : AreCounted (with_bads lines marks)
  marked-ids = subst AreCounted added-is added.1.good.counted

  bads-own : All (λ (line : Line). IsValue (behind_all no_lines lines) (id_at line.arguments 0) 1) (lines_by_rule is_bad lines)
  bads-own = all-passing is_bad (λ (line : Line). IsValue (behind_all no_lines lines) (id_at line.arguments 0) 1) lines (bad-value lines (fine-lines lines accepted) accepted.forms)

  shows-added : ShowsMarks lines marks added.0.lines
  shows-added inputs step =
      let q = added.0 in
      let all = in-marked lines accepted q (bad_lines (length lines + 1) outputs) added.1 in
      ap (map (is_violated q.lines inputs step)) added.1.bad ∙ map-append (is_violated q.lines inputs step) (lines_by_rule is_bad lines) (bad_lines (length lines + 1) outputs)
      ∙ ap₂ (λ (a b : List Bool). a ++ b)
      (alike (is_violated q.lines inputs step) (is_violated lines inputs step) (lines_by_rule is_bad lines)
      (λ k d inside. let id = id_at (get_or (lines_by_rule is_bad lines) k d).arguments 0 in ap (λ (v : BitVector). nat_eq v.number 1) (all inputs step id 1 (bads-own k d inside))))
      (violated-by lines q.lines inputs step (length lines + 1) outputs
      (λ k line at. all inputs step (id_at line.arguments 0) 1 (picked-out (λ (l : Line). IsValue (behind_all no_lines lines) (id_at l.arguments 0) 1) (flag_lines lines) marks (flag-value lines accepted (page lines) [] empty) k line at))
      ∙ mapped-picks (is_violated lines inputs step) (flag_lines lines) marks within
      ∙ ap (λ (bs : List Bool). map (λ (mark : ℕ). slice_index_or bs mark false) marks)
      (sym (map-map (λ (id : ℕ). nat_eq (values_in lines inputs step id).number 1) (λ (line : Line). id_at line.arguments 0) (flag_lines lines))
      ∙ sym (ap (map (λ (id : ℕ). nat_eq (values_in lines inputs step id).number 1)) (flags-are lines accepted (page lines) [] empty))))

  pub marked-shown : ShowsMarks lines marks (with_bads lines marks)
  marked-shown = subst (ShowsMarks lines marks) added-is shows-added

-- the same of what a call gives, where it gives the lines
pub record AreMarked {E : Type 0} (r : Result (List Line) E) (lines : List Line) (marks : List ℕ) : Type 0 where
  pub lines_are : IfOk r (λ (all : List Line). all ≡ with_bads lines marks)
  pub accepted : IfOk r IsAccepted
  pub ids : IfOk r AreCounted
  pub parts : IfOk r (HasSameParts lines)
  pub run : IfOk r (RunsAlike lines)
  pub violations : IfOk r (ShowsMarks lines marks)

pub are-marked : {E : Type 0} (r : Result (List Line) E) (lines : List Line) (marks : List ℕ) → IsAccepted lines → AreCounted lines → All (λ (mark : ℕ). mark < length (flag_lines lines)) marks
    → IfOk r (λ (all : List Line). all ≡ with_bads lines marks) → IfOk r (λ (all : List Line). length all < 2 ^ 64) → AreMarked r lines marks
are-marked {E} r lines marks accepted counted within is few =
    let by : (Q : List Line → Type 0) → Q (with_bads lines marks) → IfOk r Q = λ Q holds. IfOk-weaker r (λ (all : List Line). all ≡ with_bads lines marks) Q (λ all at. subst Q (sym at) holds) is in
    record {
      lines_are = is;
      accepted = both r (λ (all : List Line). all ≡ with_bads lines marks) (λ (all : List Line). length all < 2 ^ 64) IsAccepted
          (λ all at small. subst IsAccepted (sym at) (marked-accepted lines accepted counted marks within (subst (λ (ls : List Line). length ls < 2 ^ 64) at small))) is few;
      ids = by AreCounted (marked-ids lines accepted counted marks within);
      parts = by (HasSameParts lines) (marked-parts lines accepted counted marks within);
      run = by (RunsAlike lines) (marked-run lines accepted counted marks within);
      violations = by (ShowsMarks lines marks) (marked-shown lines accepted counted marks within);
    }
  where
    both : (r : Result (List Line) E) (P Q R : List Line → Type 0) → ((ls : List Line) → P ls → Q ls → R ls) → IfOk r P → IfOk r Q → IfOk r R
    both (Ok ls) P Q R more p q = more ls p q
    both (Err e) P Q R more p q = p
