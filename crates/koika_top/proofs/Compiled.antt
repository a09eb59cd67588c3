-- `btorsim` answers to the BTOR2 text of a source, with the source's stimulus, what `sim` answers to the source.
use Rattle.std.proofs.Common.{◌≡◌, ℕ, suc, ◌+◌, ◌-◌, ◌≤◌, All, Bool, cond, List, [], ◌∷◌, ◌++◌, length, map, Option, Some, refl, sym, ap, ap₂, subst, ◌∙◌, inl, inr, arith}
use Rattle.std.specs.Prelude.{slice_get}
use Rattle.std.specs.List.{flat_map, position_from, range_with_len}
use Rattle.std.proofs.lemmas.List.{length-map}
use Rattle.std.proofs.lemmas.Simd.{map-map}
use Rattle.kw_bits.specs.Host.{TakesWidth}
use Rattle.one_rule.specs.Run.{rows_after}
use Rattle.one_rule.specs.Stimulus.{InputVectors, inputs_of}
use Rattle.one_rule.specs.declared.rows.Row.{Row}
use Rattle.one_rule.proofs.Runs.{rows_are_cycles}
use Rattle.btor2_model.specs.Rules.{is_bad, is_input, is_output, is_state}
use Rattle.btor2_model.specs.Run.{lines_by_rule, width_in}
use Rattle.btor2_text.specs.Reading.{AreLinesOf}
use Rattle.btor2_text.specs.declared.line.Line.{Line}
use Rattle.btor2_net.specs.Translations.{line_name}
use Rattle.koika_assert.specs.Bads.{is_violated}
use Rattle.koika_assert.specs.Violations.{violated_line, violated_lines, violations, watched}
use Rattle.koika_check.proofs.TypedTrees.{typed-design}
use Rattle.koika_check.specs.declared.checked.Checked.{Checked}
use Rattle.koika_check.specs.declared.checked.Input.{Input}
use Rattle.koika_check.specs.declared.checked.Register.{Register}
use Rattle.stim_report.specs.Cuts.{parts_of}
use Rattle.stim_report.specs.Stimuli.{stimulus_of}
use Rattle.stim_report.specs.Summary.{has_fired}
use Rattle.stim_report.specs.declared.shape.NameWidth.{NameWidth}
use Rattle.stim_report.specs.declared.shape.Shape.{Shape}
use Rattle.kw_bits.specs.declared.host.HostSpec.{HostSpec}
use Rattle.koika_top.specs.Btorsim as text
use Rattle.koika_top.specs.Btorsim.{AnswersBtorsim, HoldsRun, HoldsText, longest_circuit}
use Rattle.front_end.specs.Circuits.{IsStimulusFor}
use Rattle.koika_top.specs.Compile.{AreCircuitOf, ShowsCircuit}
use Rattle.front_end.specs.Lengths as lengths
use Rattle.koika_top.specs.Sim.{AnswersSim, rows_text, text_of_run}
use Rattle.front_end.specs.Marks.{marked_name, marks_of}
use Rattle.front_end.specs.Sources as sources
use Rattle.front_end.specs.Sources.{Spells}
use Rattle.front_end.specs.Systems as typed
use Rattle.front_end.specs.declared.answer.Answer.{Answer}
use Rattle.front_end.specs.declared.answer.Answer.TheVariants.{Usage, Refused, Written}
use Rattle.koika_top.specs.declared.shown.Shown.{Shown}
use Rattle.koika_top.proofs.BadLines.{flags-all}
use Rattle.koika_top.proofs.MachineRows.{drop-none}
use Rattle.front_end.proofs.OneSource.{long_or_spelled, same_design, spelled_or_not}
use Rattle.front_end.proofs.Reading.{stimulus-fits, widths-valid}
use Rattle.koika_top.proofs.Shapes.{both-agree}
use Rattle.koika_top.proofs.StimuliFit.{stimulus-always, stimulus-free}

-- ---- violations

-- the first step that passes is that of the first row that does
first-same : (p : ℕ → Bool) (q : Row → Bool) (k i : ℕ) (rest : List Row) → ((j : ℕ) (row : Row) → slice_get rest j ≡ Some row → p (k + j) ≡ q row) → position_from p i (range_with_len k (length rest)) ≡ position_from q i rest
first-same p q k i [] same = refl
first-same p q k i (row ∷ rest) same =
    let here : k ≡ k + 0 = omega arith in
    ap₂ (λ (b : Bool) (others : Option ℕ). cond b (Some i) others) (ap p here ∙ same 0 row refl)
    (first-same p q (k + 1) (i + 1) rest (λ j r e. let next : k + 1 + j ≡ k + suc j = omega arith in ap p next ∙ same (suc j) r e))

-- bad lines that are violated in the cycles in which marked rules fire
lists-same : (bads : List Line) (marks : List ℕ) (is : Line → ℕ → Bool) (rest : List Row) → length bads ≡ length marks
    → ((j : ℕ) (row : Row) → slice_get rest j ≡ Some row → map (λ bad. is bad j) bads ≡ map (λ mark. has_fired mark row) marks)
    → flat_map (λ bad. violated_line (line_name bad) (position_from (is bad) 1 (range_with_len 0 (length rest)))) bads ≡ violated_lines (map line_name bads) (map (λ mark. position_from (has_fired mark) 1 rest) marks)
lists-same [] marks is rest count same = refl
lists-same (bad ∷ bads) [] is rest count same = absurd (omega (arith, count))
lists-same (bad ∷ bads) (mark ∷ marks) is rest count same =
    let head : (j : ℕ) (row : Row) → slice_get rest j ≡ Some row → is bad (0 + j) ≡ has_fired mark row =
    λ j row e. let at : 0 + j ≡ j = omega arith in let both = same j row e in ap (is bad) at ∙ heads both
    in
    let tail : (j : ℕ) (row : Row) → slice_get rest j ≡ Some row → map (λ bad. is bad j) bads ≡ map (λ mark. has_fired mark row) marks = λ j row e. tails (same j row e) in
    ap₂ (λ (first : Option ℕ) (others : List ℕ). violated_line (line_name bad) first ++ others) (first-same (is bad) (has_fired mark) 0 1 rest head)
    (lists-same bads marks is rest (omega (arith, count)) tail)
  where
    heads : {x y : Bool} {xs ys : List Bool} → x ∷ xs ≡ y ∷ ys → x ≡ y
    heads e = cc

    tails : {x y : Bool} {xs ys : List Bool} → x ∷ xs ≡ y ∷ ys → xs ≡ ys
    tails e = cc

module _ (d : Checked) (lines : List Line) (are : AreCircuitOf d lines) where
  -- ---- what texts tell of the lines

  shape-same : text.shape_of lines ≡ sources.shape_of d
  shape-same =
      let width : Line → ℕ = λ l. width_in lines l.id in
      let inputs = both-agree line_name width (λ (i : Input). i.name) (λ (i : Input). i.width) (lines_by_rule is_input lines) d.inputs are.parts.inputs
      (sym (map-map (width_in lines) (λ (l : Line). l.id) (lines_by_rule is_input lines)) ∙ are.parts.input_widths) in
      let registers = both-agree line_name width (λ (r : Register). r.name) (λ (r : Register). r.width) (lines_by_rule is_state lines) d.registers are.parts.states
      (sym (map-map (width_in lines) (λ (l : Line). l.id) (lines_by_rule is_state lines)) ∙ are.parts.state_widths) in
      let rules : map line_name (text.flag_lines lines) ≡ map sources.name_of d.rules = ap (map line_name) (flags-all lines d.rules are.parts.output_widths) ∙ are.parts.outputs in
      let shape : List NameWidth → List NameWidth → List (List ℕ) → Shape = λ is ss rs. record { inputs = is; registers = ss; rules = rs } in
      λ i. shape (inputs i) (registers i) (rules i)

  long-same : (cycles : ℕ) → text.is_too_long cycles lines ≡ lengths.is_too_long_for cycles d
  long-same cycles =
      let states : length (lines_by_rule is_state lines) ≡ length d.registers =
      sym (length-map (lines_by_rule is_state lines) line_name) ∙ ap length are.parts.states ∙ length-map d.registers (λ (r : Register). r.name)
      in
      let flags : length (text.flag_lines lines) ≡ length d.rules =
      ap length (flags-all lines d.rules are.parts.output_widths) ∙ sym (length-map (lines_by_rule is_output lines) line_name) ∙ ap length are.parts.outputs ∙ length-map d.rules sources.name_of
      in
      ap₂ (lengths.is_too_long cycles) states flags

  -- ---- and of its run

  module _ (stimulus : InputVectors) (fits : IsStimulusFor d stimulus) (n : ℕ) where
    abbrev rest : List Row
    rest = rows_after (typed.system_of d) (inputs_of stimulus) (n - 0) 0 (typed.first_values d)

    rest-count : length rest ≡ n
    rest-count = let count = rows_are_cycles (typed.system_of d) (inputs_of stimulus) (typed.first_values d) 0 n in omega (arith, count)

    violated-same : text.violations lines (inputs_of stimulus) n ≡ violations (marks_of d).names (marks_of d).rules (typed.run_of d (inputs_of stimulus) n)
    unfolding watched
    violated-same =
        let bads = lines_by_rule is_bad lines in
        let is : Line → ℕ → Bool = λ bad step. is_violated lines (inputs_of stimulus) step bad in
        let rows = typed.run_of d (inputs_of stimulus) n in
        let lens : length bads ≡ length d.asserts = sym (length-map bads line_name) ∙ ap length are.parts.bads ∙ length-map d.asserts (marked_name d) in
        let same : (j : ℕ) (row : Row) → slice_get rest j ≡ Some row → map (λ bad. is bad j) bads ≡ map (λ mark. has_fired mark row) d.asserts =
        λ j row e. let at : j + 1 ≡ suc j = omega arith in are.violated stimulus n j row fits (ap (slice_get rows) at ∙ e)
        in
        ap (λ (k : ℕ). flat_map (λ bad. violated_line (line_name bad) (position_from (is bad) 1 (range_with_len 0 k))) bads) (sym rest-count)
        ∙ lists-same bads d.asserts is rest lens same
        ∙ ap₂ violated_lines are.parts.bads (ap (λ (rs : List Row). map (λ mark. position_from (has_fired mark) 1 rs) d.asserts) (sym (drop-none rest)))

    shown-same : (shown : Shown) → text.shown_run shown lines (inputs_of stimulus) n ≡ text_of_run d stimulus n shown
    shown-same shown =
        (λ i. rows_text shown (shape-same i) (are.run stimulus n fits i) ++ violated-same i)

-- ---- answers

module _ (hosts : List HostSpec) (offered : All (λ (h : HostSpec). TakesWidth h.kind h.in_width) hosts) (source compiled other : List ℕ) (h : ShowsCircuit hosts source compiled)
    (front : (parts_of other).design ≡ compiled) (behind : (parts_of other).stimulus ≡ (parts_of source).stimulus) (short : length other ≤ longest_circuit) where
  holds-text : HoldsText other h.lines
  holds-text = record { holds = record { short = short; are = subst (λ (t : List ℕ). AreLinesOf t h.lines) (sym front) h.read }; no_fault = h.circuit.accepted.no_fault }

  module _ (d : Checked) (stimulus : InputVectors) (spelled : Spells hosts source d stimulus) where
    same : h.design ≡ d
    same = same_design hosts source h.design d h.spelled.spelled spelled.spelled

    circuit : AreCircuitOf d h.lines
    circuit = subst (λ (x : Checked). AreCircuitOf x h.lines) same h.circuit

    holds-run : HoldsRun other h.lines stimulus
    holds-run = record {
      text = holds-text;
      given =
          (λ i. stimulus_of (shape-same d h.lines circuit i) (parts_of other).first_line (behind i))
          ∙ stimulus-free (sources.shape_of d) (parts_of source).first_line (parts_of other).first_line (parts_of source).stimulus stimulus spelled.given;
    }

    fits : IsStimulusFor d stimulus
    fits =
        let tree = spelled.spelled.tree in
        let typed = typed-design hosts tree d offered spelled.spelled.spelled.derived.design spelled.spelled.typed in
        let all = widths-valid d (sources.shape_of d) typed refl in
        record {
          widths = stimulus-fits d (sources.shape_of d) (parts_of source).first_line (parts_of source).stimulus stimulus refl spelled.given;
          fits = stimulus-always (sources.shape_of d) (parts_of source).first_line (parts_of source).stimulus stimulus all spelled.given;
        }

  pub runs-the-same : (cycles : ℕ) (shown : Shown) (answer : Answer) → AnswersSim hosts cycles shown source answer → AnswersBtorsim cycles shown other answer
  runs-the-same cycles shown Usage is = is
  runs-the-same cycles shown (Refused fault) (inl long) = absurd (long_or_spelled hosts source fault h.design long h.spelled.spelled)
  runs-the-same cycles shown (Refused fault) (inr (inl wrong)) = absurd (spelled_or_not hosts source fault h.design h.stimulus wrong h.spelled)
  runs-the-same cycles shown (Refused fault) (inr (inr (e, (d, stimulus, spelled, long)))) =
      inr (inr (inr (inr (e, (h.lines, stimulus, holds-run d stimulus spelled, long-same d h.lines (circuit d stimulus spelled) cycles ∙ long)))))
  runs-the-same cycles shown (Written report) shows = record {
    lines = h.lines;
    stimulus = shows.stimulus;
    holds = holds-run shows.design shows.stimulus shows.spelled;
    within = long-same shows.design h.lines (circuit shows.design shows.stimulus shows.spelled) cycles ∙ shows.within;
    told = shows.told ∙ sym (shown-same shows.design h.lines (circuit shows.design shows.stimulus shows.spelled) shows.stimulus (fits shows.design shows.stimulus shows.spelled) cycles shown);
  }
