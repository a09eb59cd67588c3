use Rattle.std.proofs.Common.{◌≡◌, ◌==◌, filter, map, take}
use Rattle.btor2_model.specs.Rules.{is_output}
use Rattle.btor2_model.specs.Run.{lines_by_rule, width_in}
use Rattle.btor2_model.specs.Scope.{id_at}
use Rattle.btor2_model.proofs.rows.flag_ids.Given as goal

abbrev pub invariant-loop-line : goal.invariant-loop-line
invariant-loop-line l = l.ids.items ≡ filter (λ id. width_in l.lines id == 1) (map (λ line. id_at line.arguments 0) (lines_by_rule is_output (take l.line-index l.lines)))
