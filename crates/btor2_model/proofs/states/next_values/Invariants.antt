use Rattle.std.proofs.Common.{true, All, take}
use Rattle.btor2_model.specs.Acceptance.{IsAccepted}
use Rattle.btor2_model.specs.Run.{Values, next_values, width_in}
use Rattle.btor2_model.specs.Scope.{behind_all, no_lines}
use Rattle.btor2_model.specs.SlowRun.{HasValue}
use Rattle.btor2_model.specs.inner.SlowRun.{IsFilled, Knows, known_value}
use Rattle.btor2_model.proofs.states.next_values.Given as goal

abbrev pub invariant-loop-state : goal.invariant-loop-state
invariant-loop-state l = record {
  known : (all : Values) → Knows l.values all → Knows l.states (next_values l.lines all);
  have : IsAccepted l.lines → IsFilled true (behind_all no_lines l.lines) l.values → All (λ id. HasValue (known_value l.states id) (width_in l.lines id)) (take l.state-index l.state-items);
}
