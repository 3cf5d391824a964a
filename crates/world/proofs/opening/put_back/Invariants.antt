use Rattle.std.proofs.Common.{◌≡◌, ◌+◌, ◌≤◌, ◌++◌, length, map, vec_capacity}
use Rattle.world.proofs.opening.put_back.Given as goal

abbrev pub invariant-loop-one : goal.invariant-loop-one
invariant-loop-one g l = record {
  whole : map (λ r. r.kept.disk) l.left.items ++ l.disks.items ≡ map (λ r. r.kept.disk) l.fn.replicas.items ++ l.fn.spare.items;
  room : length l.left.items + length l.disks.items ≤ vec_capacity l.disks;
}

abbrev pub decreases-loop-one : goal.decreases-loop-one
decreases-loop-one g l = length l.left.items
