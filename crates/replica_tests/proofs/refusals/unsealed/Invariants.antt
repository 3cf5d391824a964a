use Rattle.replica_tests.proofs.refusals.unsealed.Given as goal

abbrev pub ghosts-unsealed_by : goal.ghosts-unsealed_by
ghosts-unsealed_by a = record { name = a.blank.name; parts = a.blank.parts }
