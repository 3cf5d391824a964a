use Rattle.replica_tests.proofs.refusals.met.Given as goal

abbrev pub ghosts-met_by : goal.ghosts-met_by
ghosts-met_by a = record { name = a.blank.name; parts = a.blank.parts }
