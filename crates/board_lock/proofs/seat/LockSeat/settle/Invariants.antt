use Rattle.attempt_log.specs.Entries.{settle_entry}
use Rattle.board_lock.proofs.seat.LockSeat.settle.Given as goal

abbrev pub ghosts-add_settle : goal.ghosts-add_settle
ghosts-add_settle g a = record { entry = settle_entry a.place.now.me.0.part.worker a._answer.now }
