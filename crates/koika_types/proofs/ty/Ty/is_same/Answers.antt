use Rattle.std.proofs.Common.{sym, ◌∙◌}
use Rattle.koika_types.proofs.Equal.{eq-SameTy}
use Rattle.koika_types.proofs.ty.Ty.is_same.Goals as goal

pub returns : goal.returns
returns c =
    let answers = eq-SameTy c.args.self.now c.args.other.now in
    (λ t. answers.0 (sym c.eq.ensures ∙ t), λ h. c.eq.ensures ∙ answers.1 h)
