use Rattle.std.proofs.Common.{◌≡◌, ◌∷◌, map}
use Rattle.one_rule.specs.Stimulus.{inputs_of}
use Rattle.btor2_model.specs.Rules.{is_input}
use Rattle.btor2_model.specs.Run.{first_row, ids_of, rows_behind, states_at, width_in}
use Rattle.btor2_model.specs.inner.SlowRun.{Knows, StatesHave}
use Rattle.btor2_model.proofs.rows.slow_run.Given as goal

-- the rows so far, and what is known of the states now
abbrev pub invariant-loop-step : goal.invariant-loop-step
invariant-loop-step l = record {
  states : Knows l.states (states_at l.text (inputs_of l.stimulus) l.step);
  rows : l.rows ≡ first_row l.text ∷ rows_behind l.text (inputs_of l.stimulus) l.step;
  have : l.stimulus.widths ≡ map (width_in l.text) (ids_of is_input l.text) → StatesHave l.text l.states;
}
