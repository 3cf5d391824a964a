use Rattle.std.specs.Prelude.{◌≡◌, take}
use Rattle.braid_run.proofs.entries.Entries.from_slice.Given as goal

abbrev pub invariant-loop-entry : goal.invariant-loop-entry
invariant-loop-entry l = l.all.all ≡ take l.entry-index l.entries
