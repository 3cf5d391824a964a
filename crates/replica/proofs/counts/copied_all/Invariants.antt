use Rattle.std.specs.Prelude.{◌≡◌, take}
use Rattle.replica.proofs.counts.copied_all.Given as goal

abbrev pub invariant-loop-one : goal.invariant-loop-one
invariant-loop-one l = l.copies.items ≡ take l.one-index l.all
