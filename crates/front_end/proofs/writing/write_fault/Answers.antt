use Rattle.std.proofs.lemmas.Result.{err_from_is_err_and}
use Rattle.front_end.proofs.Told.{told-none}
use Rattle.front_end.proofs.writing.write_fault.Goals as goal

pub returns-in_err-line : goal.returns-in_err-line
returns-in_err-line g c =
    let p = err_from_is_err_and c.from_residual.result c.from_residual.ensures.1 in
    rw (p.1, p.2) (told-none _ _ _)
