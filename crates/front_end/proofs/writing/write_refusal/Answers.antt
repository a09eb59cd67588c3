use Rattle.std.proofs.Common.{refl}
use Rattle.kw_base.specs.FaultLine.{line_of_fault}
use Rattle.front_end.proofs.Told.{keeps-known, told-refused}
use Rattle.front_end.proofs.writing.write_refusal.Goals as goal

pub returns-in-Fault : goal.returns-in-Fault
returns-in-Fault g c = rw (c.in-Fault.is, c.status_by.ensures) (told-refused (line_of_fault c.in-Fault.fault) _ c.write_fault.result c.write_fault.ensures)

pub returns-in-NoMemory : goal.returns-in-NoMemory
returns-in-NoMemory g c = rw c.in-NoMemory.is (keeps-known _, refl)
