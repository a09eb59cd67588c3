use Rattle.clause_check.proofs.Soundness.{refuted}
use Rattle.clause_check.proofs.laws.a_refuted_formula_is_unsatisfiable.Goals as goal

pub returns : goal.returns
returns c = λ formula first_line text is. refuted formula first_line text is
