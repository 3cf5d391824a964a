use Rattle.std.proofs.Common.{◌≡◌, ◌+◌, drop, true}
use Rattle.world.specs.working.Places.{is_named, place_in}
use Rattle.world.proofs.named.place_of.Given as goal

abbrev pub invariant-loop-place : goal.invariant-loop-place
invariant-loop-place g l = record {
  there : is_named (drop l.place l.replicas) l.name ≡ true;
  same : l.place + place_in (drop l.place l.replicas) l.name ≡ place_in l.replicas l.name;
}
