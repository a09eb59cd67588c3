use Rattle.front_end.proofs.Told.{told-all, told-some}
use Rattle.front_end.proofs.writing.write_text.Goals as goal

pub returns-in-Ok : goal.returns-in-Ok
returns-in-Ok g c = told-all c.args.text.now _ _ _ _ _ c.in-Ok.ensures.all c.write_all.ensures.never_falls

pub returns-in-Err : goal.returns-in-Err
returns-in-Err g c = told-some c.args.text.now _ _ _ _ _ c.in-Err.ensures.some c.in-Err.ensures.cause c.write_all.ensures.never_falls
