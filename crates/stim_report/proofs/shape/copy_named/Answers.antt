use Rattle.std.proofs.Common.{◌≡◌, List, rules, subst}
use Rattle.std.specs.Prelude.{IfOk}
use Rattle.std.proofs.lemmas.List.{map-id}
use Rattle.stim_report.specs.declared.shape.NameWidth.{NameWidth}
use Rattle.stim_report.proofs.shape.copy_named.Goals as goal

pub returns : goal.returns
returns c = subst (λ (all : List NameWidth). IfOk c.try_map.result (λ copy. copy ≡ all)) (map-id c.args.named.now) (c.try_map.ensures (λ one. one) (λ x y k. search rules))
