use Rattle.std.proofs.Common.{◌≡◌, nat_eq, drop}
use Rattle.std.specs.List.{zip}
use Rattle.std.specs.Map.{lookup}
use Rattle.btor2_model.proofs.line_values.input_value.Given as goal

abbrev pub invariant-loop-place : goal.invariant-loop-place
invariant-loop-place l = lookup (nat_eq l.id) (zip l.ids l.inputs) ≡ lookup (nat_eq l.id) (zip (drop l.place l.ids) (drop l.place l.inputs))
