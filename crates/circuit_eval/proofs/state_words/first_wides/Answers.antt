use Rattle.std.specs.Prelude.{Result, Ok, Err, IfOk}
use Rattle.std.proofs.Common.{◌≡◌, inl}
use Rattle.circuit_eval.specs.inner.Programs.{AreWides}
use Rattle.circuit_eval.specs.Run.{first_states}
use Rattle.circuit_eval.proofs.state_words.first_wides.Goals as goal

if_ok : {T E : Type 0} (P Q : T → Type 0) (r : Result T E) → ((value : T) → P value → Q value) → IfOk r P → IfOk r Q
if_ok P Q (Ok value) f p = f value p
if_ok P Q (Err error) f p = p

pub returns : goal.returns
returns c = if_ok (λ values. values.items ≡ first_states c.args.wires.now) (λ values. AreWides c.args.wires.now values.items) c.first_values.result (λ values e. inl e) c.first_values.ensures
