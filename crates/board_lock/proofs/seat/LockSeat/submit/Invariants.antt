use Rattle.attempt_log.specs.Entries.{submit_entry}
use Rattle.board_lock.proofs.seat.LockSeat.submit.Given as goal

abbrev pub ghosts-add : goal.ghosts-add
ghosts-add g a = record { entry = submit_entry a.place.now.me.0.part.worker a._attempt.now.value a._answer.now }
