use Rattle.std.proofs.Common.{◌∙◌}
use Rattle.std.proofs.lemmas.Result.{err_from_is_err_and}
use Rattle.front_end.proofs.Told.{told-as, told-none}
use Rattle.lab_top.proofs.lint.LintRun.write_part.Goals as goal

pub returns-in_err-text : goal.returns-in_err-text
returns-in_err-text g c =
    let p = err_from_is_err_and c.from_residual.result c.from_residual.ensures.1 in
    rw (p.1, p.2) (told-none _ _ _)

pub returns : goal.returns
returns g c = told-as _ _ _ c.write_text.result (c.as_slice.ensures ∙ c.in_ok-text.ensures) c.write_text.ensures
