use Rattle.std.proofs.Common.{◌≡◌, length}
use Rattle.aranyad.proofs.stored_disks.Given as goal

abbrev pub invariant-loop-place : goal.invariant-loop-place
invariant-loop-place l = length l.disks.items ≡ l.place
