use Rattle.std.proofs.Common.{◌≡◌, ℕ, false, All, subst, ◌∙◌, sym}
use Rattle.std.proofs.lemmas.List.{take_all}
use Rattle.std.proofs.lemmas.List.Elements.{All-nil}
use Rattle.btor2_model.specs.Rules.{is_state}
use Rattle.btor2_model.specs.Run.{Values, first_state_values, ids_of, no_bits, values_at, width_in}
use Rattle.btor2_model.specs.SlowRun.{HasValue}
use Rattle.btor2_model.specs.inner.SlowRun.{Knows, known_value}
use Rattle.btor2_model.proofs.Evaluation.{Knows-more, Knows-nothing}
use Rattle.btor2_model.proofs.Lasting.{IsNarrowId, states-more, states-narrow}
use Rattle.btor2_model.proofs.Selections.{no-inputs}
use Rattle.btor2_model.proofs.states.first_values.Goals as goal

pub loop-state-init : goal.loop-state-init
loop-state-init c = record {
  known = Knows-nothing c.new-states.result (first_state_values c.args.lines.now) c.new-states.ensures;
  have = λ forms. All-nil (λ id. HasValue (known_value c.new-states.result id) (width_in c.args.lines.now id));
}

pub loop-state-preserved : goal.loop-state-preserved
loop-state-preserved c =
    let lines = c.args.lines.now in
    let nothing : Values = λ _. no_bits in
    let before = subst (λ (inputs : Values). Knows c.in_ok-values.values (values_at lines (record { inputs = inputs; states = nothing }))) (no-inputs lines) (c.in_ok-values.ensures.known nothing (Knows-nothing c.new.result nothing c.new.ensures)) in
    record {
      known = Knows-more c.loop-state.states c.set.new.self _ c.first_value.result (first_state_values lines) c.in_ok-set.ensures c.loop-state.invariant.known
          (c.first_value.ensures.known (values_at lines (record { inputs = nothing; states = nothing })) before);
      have = λ forms.
          let items = c.as_slice-state-items.result.now in
          let ids : items ≡ ids_of is_state lines = c.as_slice-state-items.ensures.value ∙ c.in_ok-ids.ensures in
          let narrow : All (IsNarrowId lines) items = subst (All (IsNarrowId lines)) (sym ids) (states-narrow lines c.requires.accepted forms) in
          let here = narrow c.loop-state.state-index 0 c.loop-state-test.true in
          let filled = c.in_ok-values.ensures.filled false forms (λ now. absurd (cc)) (λ now. absurd (cc)) in
          states-more (width_in lines) c.loop-state.states c.set.new.self items c.loop-state.state-index 0 c.first_value.result c.loop-state-test.true c.in_ok-set.ensures
          (c.first_value.ensures.has c.requires.accepted forms filled here.0 here.1) (c.loop-state.invariant.have forms);
    }

pub returns-clause-have : goal.returns-clause-have
returns-clause-have c = λ forms.
    let lines = c.args.lines.now in
    let items = c.as_slice-state-items.result.now in
    let ids : items ≡ ids_of is_state lines = c.as_slice-state-items.ensures.value ∙ c.in_ok-ids.ensures in
    let Has : ℕ → Type 0 = λ id. HasValue (known_value c.loop-state.states id) (width_in lines id) in
    subst (All Has) (take_all c.loop-state.state-index items c.loop-state-test.false ∙ ids) (c.loop-state.invariant.have forms)
