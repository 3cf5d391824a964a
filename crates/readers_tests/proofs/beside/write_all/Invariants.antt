use Rattle.std.proofs.Common.{◌≡◌, false}
use Rattle.readers_tests.proofs.beside.write_all.Given as goal

-- The writer may go on.
abbrev pub invariant-commits : goal.invariant-commits
invariant-commits g l = l.writer.told_last ≡ false
