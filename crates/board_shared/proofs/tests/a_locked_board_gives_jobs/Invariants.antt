use Rattle.board_shared.proofs.tests.a_locked_board_gives_jobs.Given as goal

abbrev pub ghosts-ask : goal.ghosts-ask
ghosts-ask g a = record { name = a.blank.name; parts = a.blank.parts }
