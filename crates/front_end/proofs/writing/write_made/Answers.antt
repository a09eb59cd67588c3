use Rattle.front_end.proofs.Told.{told-as, told-done}
use Rattle.front_end.proofs.writing.write_made.Goals as goal

pub returns-in-Ok : goal.returns-in-Ok
returns-in-Ok g c = rw (c.in-Ok.is, c.status_by.ensures) (told-done c.in-Ok.text _ c.write_text.result (told-as _ c.in-Ok.text _ c.write_text.result c.as_slice.ensures c.write_text.ensures))

pub returns-in-Err : goal.returns-in-Err
returns-in-Err g c = rw c.in-Err.is c.write_refusal.ensures
