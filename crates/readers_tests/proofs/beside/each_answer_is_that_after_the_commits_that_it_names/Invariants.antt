use Rattle.readers_tests.proofs.beside.each_answer_is_that_after_the_commits_that_it_names.Given as goal

-- The book that was just opened.
abbrev pub ghosts-watched : goal.ghosts-watched
ghosts-watched g a = record { book = a.opened }
