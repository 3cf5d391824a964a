use Rattle.eval_tests.proofs.envelopes.graph_id.Given as goal

abbrev pub ghosts-played : goal.ghosts-played
ghosts-played a = record { name = a.blank.name; parts = a.blank.parts }
