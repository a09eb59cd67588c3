use Rattle.std.proofs.Common.{◌∙◌, Bool, List, true, ap}
use Rattle.std.specs.Prelude.{slice_set}
use Rattle.lab_lint.proofs.Sweeping.{untried-where}
use Rattle.lab_lint.proofs.order.may_be_untried.Goals as goal

pub returns : goal.returns
returns c =
    untried-where c.args.nodes.now c.args.rule c.set.new.self c.over.new.marks c.index.result.now c.requires
    (c.set.ensures ∙ ap (λ (xs : List Bool). slice_set xs 0 true) c.in_ok-marks.ensures) c.over.ensures.swept c.over.ensures.length c.index.ensures
