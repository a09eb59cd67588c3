use Rattle.std.proofs.Common.{◌≡◌, ◌==◌, ℕ, ◌+◌, true, List, [], ◌∷◌, ◌++◌, IsSome, map, ap, subst, sym, ◌∙◌}
use Rattle.kw_bits.specs.BitVector.{BitVector}
use Rattle.btor2_text.specs.declared.line.Line.{Line}
use Rattle.one_rule.specs.Run.{InputsByCycle}
use Rattle.one_rule.specs.Stimulus.{inputs_of}
use Rattle.one_rule.specs.declared.rows.Row.{Row}
use Rattle.btor2_text.specs.Printable.{ArePrintable}
use Rattle.btor2_model.specs.Acceptance.{IsAccepted}
use Rattle.btor2_model.specs.Rules.{is_input, is_state}
use Rattle.btor2_model.specs.Scope.{behind_all, no_lines}
use Rattle.btor2_model.specs.Run.{Values, first_row, first_state_values, flag_ids, ids_of, next_values, row_behind, states_at, values_in, values_with, width_in}
use Rattle.btor2_model.specs.inner.SlowRun.{InputsHave, IsFilled, Knows, StatesHave}
use Rattle.one_rule.proofs.Fitting.{widths-same}
use Rattle.btor2_model.proofs.Declared.{fine-lines}
use Rattle.btor2_model.proofs.Evaluation.{if_some-at}
use Rattle.btor2_model.proofs.Lasting.{inputs-have}
use Rattle.btor2_model.proofs.Selections.{rows-next, states-next}
use Rattle.btor2_model.proofs.rows.slow_run.Goals as goal

pub loop-step-init : goal.loop-step-init
loop-step-init c =
    let same : c.as_slice-lines.result.now ≡ c.args.text.now = c.as_slice-lines.ensures ∙ c.lines.ensures.lines in
    let first = if_some-at (λ (row : Row). row ≡ first_row c.as_slice-lines.result.now) c.in_ok-first.field-0 c.in-Some.first c.in_ok-first.ensures.row c.in-Some.is in
    record {
      states = subst (λ (lines : List Line). Knows c.in_ok-states.states (first_state_values lines)) same c.in_ok-states.ensures.known;
      rows = c.in_ok-push.ensures.ok ∙ ap (λ (rows : List Row). rows ++ c.in-Some.first ∷ []) c.new-rows.ensures ∙ ap (λ (row : Row). row ∷ []) (first ∙ ap first_row same);
      have = λ fits. subst (λ (lines : List Line). StatesHave lines c.in_ok-states.states) same (c.in_ok-states.ensures.have (subst ArePrintable (sym same) c.lines.ensures.accepted.forms));
    }

pub loop-step-preserved : goal.loop-step-preserved
loop-step-preserved c =
    let text = c.args.text.now in
    let same : c.as_slice-lines.result.now ≡ text = c.as_slice-lines.ensures ∙ c.lines.ensures.lines in
    let inputs : InputsByCycle = inputs_of c.args.stimulus.now in
    let step = c.loop-step.step in
    let now : Values = states_at text inputs step in
    let before : Values = values_in text inputs step in
    let after : Values = states_at text inputs (step + 1) in
    let values : Knows c.in_ok-values.values before =
    subst (λ (lines : List Line). Knows c.in_ok-values.values (values_with lines (inputs (step + 1)) now)) same
    (subst (λ (given : List BitVector). Knows c.in_ok-values.values (values_with c.as_slice-lines.result.now given now)) (c.as_slice.ensures ∙ c.in_ok-inputs.ensures.inputs) (c.in_ok-values.ensures.known now c.loop-step.invariant.states)) in
    let states : Knows c.in_ok-states-2.states after =
    subst (Knows c.in_ok-states-2.states) (sym (states-next text inputs step)) (subst (λ (lines : List Line). Knows c.in_ok-states-2.states (next_values lines before)) same (c.in_ok-states-2.ensures.known before values)) in
    let made = λ (lines : List Line) (row : Row) (old new : Values). row ≡ record { regs = map new (ids_of is_state lines); fired = map (λ (id : ℕ). (old id).number == 1) (flag_ids lines) } in
    let found = if_some-at (λ (row : Row). (old new : Values) → Knows c.in_ok-values.values old → Knows c.in_ok-states-2.states new → made c.as_slice-lines.result.now row old new) c.in_ok-row.field-0 c.in-Some-2.row c.in_ok-row.ensures.row c.in-Some-2.is in
    let row : c.in-Some-2.row ≡ row_behind text inputs step = subst (λ (lines : List Line). made lines c.in-Some-2.row before after) same (found before after values states) in
    record {
      states = states;
      rows = c.in_ok-push-2.ensures.ok ∙ ap (λ (r : Row). c.loop-step.rows ++ r ∷ []) row ∙ ap (λ (rows : List Row). rows ++ row_behind text inputs step ∷ []) c.loop-step.invariant.rows
          ∙ ap (λ (rows : List Row). first_row text ∷ rows) (sym (rows-next text inputs step));
      have = λ fits.
          let lines = c.as_slice-lines.result.now in
          let accepted : IsAccepted lines = subst IsAccepted (sym same) c.lines.ensures.accepted in
          let given : InputsHave lines c.as_slice.result.now =
          subst (InputsHave lines) (sym c.as_slice.ensures)
          (inputs-have lines c.in_ok-inputs.inputs (widths-same c.args.stimulus.now.widths c.in_ok-inputs.inputs c.in_ok-inputs.ensures.fits ∙ fits ∙ ap (λ (ls : List Line). map (width_in ls) (ids_of is_input ls)) (sym same))) in
          let had : StatesHave lines c.loop-step.states = subst (λ (ls : List Line). StatesHave ls c.loop-step.states) (sym same) (c.loop-step.invariant.have fits) in
          let filled : IsFilled true (behind_all no_lines lines) c.in_ok-values.values = c.in_ok-values.ensures.filled true accepted.forms (λ _. given) (λ _. had) in
          subst (λ (ls : List Line). StatesHave ls c.in_ok-states-2.states) same (c.in_ok-states-2.ensures.have accepted filled);
    }

-- the first row is there, where the states have values
pub returns-in_default-clause-always : goal.returns-in_default-clause-always
returns-in_default-clause-always c = λ fits.
    let same : c.as_slice-lines.result.now ≡ c.args.text.now = c.as_slice-lines.ensures ∙ c.lines.ensures.lines in
    subst IsSome c.in_default.is (c.in_ok-first.ensures.some (c.in_ok-states.ensures.have (subst ArePrintable (sym same) c.lines.ensures.accepted.forms)))

pub returns-in_default-2-clause-always : goal.returns-in_default-2-clause-always
returns-in_default-2-clause-always c = λ fits.
    let same : c.as_slice-lines.result.now ≡ c.args.text.now = c.as_slice-lines.ensures ∙ c.lines.ensures.lines in
    let lines = c.as_slice-lines.result.now in
    let accepted : IsAccepted lines = subst IsAccepted (sym same) c.lines.ensures.accepted in
    let given : InputsHave lines c.as_slice.result.now =
    subst (InputsHave lines) (sym c.as_slice.ensures)
    (inputs-have lines c.in_ok-inputs.inputs (widths-same c.args.stimulus.now.widths c.in_ok-inputs.inputs c.in_ok-inputs.ensures.fits ∙ fits ∙ ap (λ (ls : List Line). map (width_in ls) (ids_of is_input ls)) (sym same))) in
    let had : StatesHave lines c.loop-step.states = subst (λ (ls : List Line). StatesHave ls c.loop-step.states) (sym same) (c.loop-step.invariant.have fits) in
    let filled : IsFilled true (behind_all no_lines lines) c.in_ok-values.values = c.in_ok-values.ensures.filled true accepted.forms (λ _. given) (λ _. had) in
    subst IsSome c.in_default-2.is (c.in_ok-row.ensures.some (fine-lines lines accepted) accepted.forms filled (c.in_ok-states-2.ensures.have accepted filled))
