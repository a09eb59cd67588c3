-- A text with bad lines behind it, whose ids are 1, 2, 3 and so on, is accepted; it has the text's lines of other rules, and its values.
use Rattle.std.proofs.Common.{◌≡◌, ℕ, suc, ◌+◌, ◌<◌, ◌≤◌, ◌^◌, nat_eq, not, Bool, true, false, ◌&&◌, cond, List, [], ◌∷◌, ◌++◌, Option, None, Some, length, refl, sym, ap, ap₂, ◌∙◌, subst, arith, append_assoc, append-nil}
use Rattle.std.specs.Prelude.{slice_get}
use Rattle.std.specs.List.{find}
use Rattle.std.specs.Option.{option_map, option_or, option_to_list}
use Rattle.std.proofs.lemmas.Bool.{eqb-true}
use Rattle.std.proofs.lemmas.List.Folds.{find-append}
use Rattle.std.proofs.lemmas.Option.{slice_get_within}
use Rattle.kw_base.specs.declared.fault.Fault.{Fault}
use Rattle.kw_bits.specs.BitVector.{BitVector}
use Rattle.btor2_text.specs.Printable.{AreTokens}
use Rattle.btor2_text.specs.declared.keyword.Keyword.TheVariants as keywords
use Rattle.btor2_text.specs.declared.kind.ArgumentKind.TheVariants as kinds
use Rattle.btor2_text.specs.declared.line.Argument.{Argument}
use Rattle.btor2_text.specs.declared.line.Argument.TheVariants as arguments
use Rattle.btor2_text.specs.declared.line.Line.{Line}
use Rattle.btor2_model.specs.Acceptance.{IsAccepted, fault_in, lacks_next, lines_fault, states_fault}
use Rattle.btor2_model.specs.Rules.{is_bad, is_init, is_next, is_state, rule_of}
use Rattle.btor2_model.specs.Run.{StepValues, Values, lines_by_rule, no_bits, value_by, values_at, values_behind}
use Rattle.btor2_model.specs.Scope.{DeclaredIds, behind, behind_all, meaning_of, no_lines, width_wanted}
use Rattle.btor2_model.specs.inner.SlowRun.{sets}
use Rattle.btor2_model.specs.declared.meaning.IdMeaning.{IdMeaning}
use Rattle.btor2_model.specs.declared.rule.FormRule.{FormRule}
use Rattle.btor2_model.specs.declared.rule.FormRule.TheVariants as forms
use Rattle.btor2_model.proofs.Ends.{SameWidth, init-found}
use Rattle.btor2_model.proofs.Evaluation.{option_or-none}
use Rattle.btor2_model.proofs.Selections.{set-by}
use Rattle.btor2_net.specs.Pages.{Page, put}
use Rattle.btor2_net.specs.Translations.{AreCounted}
use Rattle.btor2_net.proofs.Adding.{Asked, Sound, length-put}
use Rattle.btor2_net.proofs.Asking.{asked-one, four, value-given}
use Rattle.btor2_model.proofs.Declared.{fine-lines}
use Rattle.btor2_net.proofs.Keeping.{Good, Keeps, Names, continued-by, keeps-all, keeps-both, known-by, names-keep, not-picked, picked, put-good, put-keeps, set_by, set_of, value-keep}
use Rattle.koika_assert.specs.Bads.{bad_line, bad_lines}
use Rattle.koika_assert.proofs.SameRuns.{SameGiven, given-head, given-tail}

-- what is known at the end and wasn't before stands on a line
declared-here : (lines : List Line) (scope : DeclaredIds) (id : ℕ) (m : IdMeaning) → scope.meanings id ≡ None → (behind_all scope lines).meanings id ≡ Some m → (place : ℕ) × (line : Line) × (slice_get lines place ≡ Some line) × (line.id ≡ id)
declared-here [] scope id m none is = absurd (cc)
declared-here (line ∷ lines) scope id m none is = by (nat_eq line.id id) refl (λ before. declared-here lines (behind scope line) id m before is)
  where
    by : (b : Bool) → nat_eq line.id id ≡ b → ((behind scope line).meanings id ≡ None → (place : ℕ) × (found : Line) × (slice_get lines place ≡ Some found) × (found.id ≡ id))
        → (place : ℕ) × (found : Line) × (slice_get (line ∷ lines) place ≡ Some found) × (found.id ≡ id)
    by true here rest = (0, line, refl, eqb-true line.id id here)
    by false other rest =
        let more = rest (ap (λ (b : Bool). cond b (Some (meaning_of scope line)) (scope.meanings id)) other ∙ none) in
        (suc more.0, more.1, more.2, more.3)

-- a value rests on the inputs, and on the states that there are
given-values : (lines : List Line) (scope : DeclaredIds) (step other : StepValues) (v : Values) → SameGiven step other lines → values_behind other scope v lines ≡ values_behind step scope v lines
given-values [] scope step other v same = refl
given-values (line ∷ lines) scope step other v same =
    let one : value_by (rule_of line.keyword) other scope v line ≡ value_by (rule_of line.keyword) step scope v line = by (rule_of line.keyword) refl in
    ap (λ (x : BitVector). values_behind other (behind scope line) (λ id. cond (nat_eq line.id id) x (v id)) lines) one
    ∙ given-values lines (behind scope line) step other (λ id. cond (nat_eq line.id id) (value_by (rule_of line.keyword) step scope v line) (v id)) (given-tail step other line lines same)
  where
    by : (rule : FormRule) → rule_of line.keyword ≡ rule → value_by rule other scope v line ≡ value_by rule step scope v line
    by forms.Input is = ap (λ (f : Values). f line.id) same.inputs
    by forms.State is = given-head step other line lines same (ap is_state is)
    by rule is = refl

-- a text of which the ids are counted, as a page
abbrev pub page : List Line → Page
page lines = record { lines = lines; sorts = λ _. None }

module _ (lines : List Line) (accepted : IsAccepted lines) (counted : AreCounted lines) where
  abbrev end : DeclaredIds
  end = behind_all no_lines lines

  fine : lines_fault no_lines lines ≡ None
  fine = fine-lines lines accepted

  known-low : (id : ℕ) (m : IdMeaning) → end.meanings id ≡ Some m → (1 ≤ id) × (id ≤ length lines)
  known-low id m is =
      let here = declared-here lines no_lines id m refl is in
      let within = slice_get_within lines here.0 here.1 here.2 in
      let number = counted here.0 here.1 here.2 in
      (omega (arith, number, here.3), omega (arith, number, here.3, within))

  not-known : (id : ℕ) → ((m : IdMeaning) → end.meanings id ≡ Some m → ⊥) → end.meanings id ≡ None
  not-known id never = by (end.meanings id) refl
    where
      by : (o : Option IdMeaning) → end.meanings id ≡ o → end.meanings id ≡ None
      by None is = is
      by (Some m) is = absurd (never m is)

  sound : Sound (page lines)
  sound = record {
    fine = fine;
    forms = λ few. accepted.forms;
    low = not-known 0 (λ m is. let low = (known-low 0 m is).0 in omega (arith, low));
    bound = λ id above. not-known id (λ m is. let low = (known-low id m is).1 in omega (arith, low, above));
  }

  late : (id : ℕ) → length lines < id → find (set_of id) (lines_by_rule is_init lines) ≡ None
  unfolding SameWidth
  late id above = by (find (sets is_init id) lines) refl
    where
      no-line : (o : Option Line) → option_map (λ (line : Line). no_bits) o ≡ None → o ≡ None
      no-line None is = refl
      no-line (Some line) is = absurd (cc)

      by : (o : Option Line) → find (sets is_init id) lines ≡ o → find (set_of id) (lines_by_rule is_init lines) ≡ None
      by None is = no-line (find (set_of id) (lines_by_rule is_init lines)) (set-by is_init lines (λ _. no_bits) id None is)
      by (Some line) is =
          let w = (init-found lines no_lines id line fine accepted.forms is).0 in
          let m = known-by kinds.Value (end.meanings id) w.0 w.1 in
          let low = (known-low id m.0 m.1).1 in absurd (omega (arith, low, above))

  pub good : Good (page lines)
  good = record { sound = sound; sorted = λ width id is. absurd (cc); late = late; counted = counted }

-- an output of one bit, which can be written as a bad line
pub record IsFlagOn (p : Page) (output : Line) : Type 0 where
  pub value : ℕ
  pub is : output.arguments ≡ arguments.Id value ∷ []
  pub named : Names kinds.Value p value 1
  pub token : AreTokens (option_to_list output.symbol)

-- a page with these lines behind another, all of them bad lines
pub record HasBads (p q : Page) (bads : List Line) : Type 0 where
  pub good : Good q
  pub keeps : Keeps p q
  pub lines : q.lines ≡ p.lines ++ bads
  pub same : (test : FormRule → Bool) → test forms.Bad ≡ false → lines_by_rule test q.lines ≡ lines_by_rule test p.lines
  pub bad : lines_by_rule is_bad q.lines ≡ lines_by_rule is_bad p.lines ++ bads
  pub lack : (scope : DeclaredIds) → find (lacks_next scope) bads ≡ None

one-bad : (p : Page) (output : Line) → Good p → IsFlagOn p output → HasBads p (put p keywords.Bad output.arguments output.symbol) (bad_line (length p.lines + 1) output ∷ [])
one-bad p output g flag =
    let given : List Argument = arguments.Id flag.value ∷ [] in
    let asked : Asked p forms.Bad keywords.Bad given (four 1 0 0 0) =
    asked-one p forms.Bad keywords.Bad refl kinds.Value (arguments.Id flag.value) 1 refl (value-given p flag.value 1 g.sound flag.named) (record { state = refl; first = refl; numeral = refl; fixed = refl })
    (record { widths = refl; bounds = refl }) in
    let named : Asked p forms.Bad keywords.Bad output.arguments (four 1 0 0 0) = subst (λ (a : List Argument). Asked p forms.Bad keywords.Bad a (four 1 0 0 0)) (sym flag.is) asked in
    record {
      good = put-good p forms.Bad keywords.Bad output.arguments output.symbol (four 1 0 0 0) g named flag.token (λ is. absurd (cc));
      keeps = put-keeps p forms.Bad keywords.Bad output.arguments output.symbol (four 1 0 0 0) g named flag.token;
      lines = refl;
      same = λ test no. not-picked test p keywords.Bad output.arguments output.symbol no;
      bad = picked is_bad p keywords.Bad output.arguments output.symbol true refl;
      lack = λ scope. refl;
    }

flag-stays : (p q : Page) (output : Line) → Keeps p q → IsFlagOn p output → IsFlagOn q output
flag-stays p q output keeps flag = record { value = flag.value; is = flag.is; named = names-keep kinds.Value p q flag.value 1 keeps flag.named; token = flag.token }

-- none yet
pub no-bads : (p : Page) → Good p → HasBads p p []
no-bads p g = record {
  good = g;
  keeps = keeps-all p;
  lines = sym (append-nil p.lines);
  same = λ test no. refl;
  bad = sym (append-nil (lines_by_rule is_bad p.lines));
  lack = λ scope. refl;
}

-- bad lines for outputs of one bit
pub has-bads : (p : Page) (outputs : List Line) → Good p → ((k : ℕ) (output : Line) → slice_get outputs k ≡ Some output → IsFlagOn p output) → (q : Page) × HasBads p q (bad_lines (length p.lines + 1) outputs)
has-bads p [] g flags = (p, no-bads p g)
has-bads p (output ∷ outputs) g flags =
    let one = one-bad p output g (flags 0 output refl) in
    let middle : Page = put p keywords.Bad output.arguments output.symbol in
    let (q, rest) = has-bads middle outputs one.good (λ k o at. flag-stays p middle o one.keeps (flags (suc k) o at)) in
    let count = length-put p keywords.Bad output.arguments output.symbol in
    let bad : Line = bad_line (length p.lines + 1) output in
    let later : bad_lines (length middle.lines + 1) outputs ≡ bad_lines ((length p.lines + 1) + 1) outputs = ap (λ (k : ℕ). bad_lines (k + 1) outputs) count in (
      q,
      record {
        good = rest.good;
        keeps = keeps-both p middle q one.keeps rest.keeps;
        lines = rest.lines ∙ append_assoc p.lines (bad ∷ []) (bad_lines (length middle.lines + 1) outputs) ∙ ap (λ (ls : List Line). p.lines ++ bad ∷ ls) later;
        same = λ test no. rest.same test no ∙ one.same test no;
        bad = rest.bad ∙ ap (λ (ls : List Line). ls ++ bad_lines (length middle.lines + 1) outputs) one.bad ∙ append_assoc (lines_by_rule is_bad p.lines) (bad ∷ []) (bad_lines (length middle.lines + 1) outputs)
            ∙ ap (λ (ls : List Line). lines_by_rule is_bad p.lines ++ bad ∷ ls) later;
        lack = λ scope. ap (find (lacks_next scope)) (sym later) ∙ rest.lack scope;
      },
    )

module _ (lines : List Line) (accepted : IsAccepted lines) (q : Page) (bads : List Line) (h : HasBads (page lines) q bads) where
  continued-same : (behind_all no_lines q.lines).continued ≡ (behind_all no_lines lines).continued
  continued-same = continued-by q.lines no_lines ∙ ap (set_by (λ _. false)) (h.same is_next refl) ∙ sym (continued-by lines no_lines)

  some-line : (o : Option Line) (f : Line → Fault) → option_map f o ≡ None → o ≡ None
  some-line None f is = refl
  some-line (Some line) f is = absurd (cc)

  none-lacks : find (lacks_next (behind_all no_lines q.lines)) q.lines ≡ None
  none-lacks =
      let before = some-line (find (lacks_next (behind_all no_lines lines)) lines) (λ (line : Line). fault_in line 56) (option_or-none (lines_fault no_lines lines) (states_fault (behind_all no_lines lines) lines) accepted.no_fault).1 in
      let test : Line → Bool = lacks_next (behind_all no_lines q.lines) in
      ap (find test) h.lines ∙ find-append test lines bads
      ∙ ap₂ option_or (ap (λ (f : ℕ → Bool). find (λ (line : Line). is_state (rule_of line.keyword) && not (f line.id)) lines) continued-same ∙ before) (h.lack (behind_all no_lines q.lines))

  pub still-accepted : length q.lines < 2 ^ 64 → IsAccepted q.lines
  still-accepted few = record {
    forms = h.good.sound.forms few;
    no_fault = ap₂ (λ (a : Option Fault) (b : Option Line). option_or a (option_map (λ (line : Line). fault_in line 56) b)) h.good.sound.fine none-lacks;
  }

  -- the values of values
  pub values-same : (step other : StepValues) (id w : ℕ) → SameGiven step other lines → width_wanted kinds.Value ((behind_all no_lines lines).meanings id) ≡ Some w → values_at q.lines other id ≡ values_at lines step id
  values-same step other id w same is =
      value-keep kinds.Value (page lines) q other id w h.keeps is ∙ ap (λ (f : Values). f id) (given-values lines no_lines step other (λ _. no_bits) same)
