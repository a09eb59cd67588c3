use Rattle.std.proofs.Common.{sym, ◌∙◌}
use Rattle.typed_core.proofs.Equal.{eq-SameRules}
use Rattle.typed_core.proofs.equality.are_same_rules.Goals as goal

pub returns : goal.returns
returns c =
    let answers = eq-SameRules c.args.rules.now c.args.others.now in
    (λ t. answers.0 (sym c.eq.ensures ∙ t), λ h. c.eq.ensures ∙ answers.1 h)
