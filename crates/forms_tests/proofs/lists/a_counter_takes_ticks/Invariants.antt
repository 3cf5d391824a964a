use Rattle.forms_tests.proofs.lists.a_counter_takes_ticks.Given as goal

abbrev pub ghosts-run_two_blocks : goal.ghosts-run_two_blocks
ghosts-run_two_blocks a = record { name = a.blank.name; parts = a.blank.parts }
