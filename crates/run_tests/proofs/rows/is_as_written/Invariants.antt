use Rattle.run_tests.proofs.rows.is_as_written.Given as goal

abbrev pub ghosts-ran : goal.ghosts-ran
ghosts-ran a = record { name = a.blank.name; parts = a.blank.parts }
