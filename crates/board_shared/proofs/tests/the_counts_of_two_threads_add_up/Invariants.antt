use Rattle.board_shared.proofs.tests.the_counts_of_two_threads_add_up.Given as goal

abbrev pub ghosts-share : goal.ghosts-share
ghosts-share g a = record { name = a.blank.name; parts = a.blank.parts }
