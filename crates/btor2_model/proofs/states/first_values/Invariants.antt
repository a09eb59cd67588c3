use Rattle.std.proofs.Common.{All, take}
use Rattle.btor2_text.specs.Printable.{ArePrintable}
use Rattle.btor2_model.specs.Run.{first_state_values, width_in}
use Rattle.btor2_model.specs.SlowRun.{HasValue}
use Rattle.btor2_model.specs.inner.SlowRun.{Knows, known_value}
use Rattle.btor2_model.proofs.states.first_values.Given as goal

abbrev pub invariant-loop-state : goal.invariant-loop-state
invariant-loop-state l = record {
  known : Knows l.states (first_state_values l.lines);
  have : ArePrintable l.lines → All (λ id. HasValue (known_value l.states id) (width_in l.lines id)) (take l.state-index l.state-items);
}
