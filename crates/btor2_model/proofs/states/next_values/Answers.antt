use Rattle.std.proofs.Common.{◌≡◌, ℕ, All, get_or, subst, sym, ◌∙◌}
use Rattle.std.proofs.lemmas.List.{take_all}
use Rattle.std.proofs.lemmas.List.Elements.{All-nil}
use Rattle.btor2_model.specs.Rules.{is_state}
use Rattle.btor2_model.specs.Run.{ids_of, next_values, width_in}
use Rattle.btor2_model.specs.SlowRun.{HasValue}
use Rattle.btor2_model.specs.inner.SlowRun.{known_value}
use Rattle.btor2_model.proofs.Evaluation.{Knows-more, Knows-nothing}
use Rattle.btor2_model.proofs.Lasting.{next-has, next_value, states-more}
use Rattle.btor2_model.proofs.states.next_values.Goals as goal

pub loop-state-init : goal.loop-state-init
loop-state-init c = record {
  known = λ all knows. Knows-nothing c.new-states.result (next_values c.args.lines.now all) c.new-states.ensures;
  have = λ accepted filled. All-nil (λ id. HasValue (known_value c.new-states.result id) (width_in c.args.lines.now id));
}

pub loop-state-preserved : goal.loop-state-preserved
loop-state-preserved c = record {
  known = λ all knows.
      Knows-more c.loop-state.states c.set.new.self _ c.next_value.result (next_values c.args.lines.now all) c.in_ok-set.ensures (c.loop-state.invariant.known all knows) (c.next_value.ensures.known all knows);
  have = λ accepted filled.
      let lines = c.args.lines.now in
      let items = c.as_slice-state-items.result.now in
      let ids : items ≡ ids_of is_state lines = c.as_slice-state-items.ensures.value ∙ c.in_ok-ids.ensures in
      let Has : ℕ → Type 0 = λ state. HasValue (next_value lines c.args.values.now state) (width_in lines state) in
      let each : All Has items = subst (All Has) (sym ids) (next-has lines c.args.values.now accepted filled) in
      states-more (width_in lines) c.loop-state.states c.set.new.self items c.loop-state.state-index 0 c.next_value.result c.loop-state-test.true c.in_ok-set.ensures
      (subst (λ o. HasValue o (width_in lines (get_or items c.loop-state.state-index 0))) (sym c.next_value.ensures.value) (each c.loop-state.state-index 0 c.loop-state-test.true)) (c.loop-state.invariant.have accepted filled);
}

pub returns-clause-have : goal.returns-clause-have
returns-clause-have c = λ accepted filled.
    let lines = c.args.lines.now in
    let items = c.as_slice-state-items.result.now in
    let ids : items ≡ ids_of is_state lines = c.as_slice-state-items.ensures.value ∙ c.in_ok-ids.ensures in
    let Has : ℕ → Type 0 = λ id. HasValue (known_value c.loop-state.states id) (width_in lines id) in
    subst (All Has) (take_all c.loop-state.state-index items c.loop-state-test.false ∙ ids) (c.loop-state.invariant.have accepted filled)
