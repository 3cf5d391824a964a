use Rattle.std.specs.Prelude.{◌≡◌, ◌-◌, filter, map, nat_le, take}
use Rattle.sync_peer.proofs.asking.places_at.Given as goal

abbrev pub invariant-loop-distance : goal.invariant-loop-distance
invariant-loop-distance l = l.places ≡ map (λ distance. l.len - distance) (filter (λ distance. nat_le distance l.len) (take l.distance-index l.distances))
