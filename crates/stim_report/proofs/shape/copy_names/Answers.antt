use Rattle.std.proofs.Common.{◌≡◌, ℕ, List, rules, subst}
use Rattle.std.specs.Prelude.{IfOk}
use Rattle.std.proofs.lemmas.List.{map-id}
use Rattle.stim_report.proofs.shape.copy_names.Goals as goal

pub returns : goal.returns
returns c = subst (λ (all : List (List ℕ)). IfOk c.try_map.result (λ copy. copy ≡ all)) (map-id c.args.names.now) (c.try_map.ensures (λ name. name) (λ x y k. search rules))
