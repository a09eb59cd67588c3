use Rattle.board_shared.proofs.tests.a_full_board_still_tells_strangers.Given as goal

abbrev pub ghosts-fill : goal.ghosts-fill
ghosts-fill g a = record { name = a.blank.name; parts = a.blank.parts }
