use Rattle.readers_tests.proofs.told.a_reader_sees_what_it_is_told.Given as goal

-- The book that was just opened.
abbrev pub ghosts-told : goal.ghosts-told
ghosts-told g a = record { book = a.opened }
