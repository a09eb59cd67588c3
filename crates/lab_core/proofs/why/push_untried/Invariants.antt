use Rattle.std.proofs.Common.{◌≡◌, ◌++◌}
use Rattle.std.specs.List.{filter, flat_map}
use Rattle.lab_core.specs.Trials.{untried}
use Rattle.lab_core.specs.Why.{is_asked, untried_line}
use Rattle.lab_core.proofs.why.push_untried.Given as goal

abbrev pub invariant-loop-rule : goal.invariant-loop-rule
invariant-loop-rule l = l.text ≡ l.fn.text ++ flat_map (untried_line l.design) (filter (is_asked l.only) (untried l.rule l.tried))
