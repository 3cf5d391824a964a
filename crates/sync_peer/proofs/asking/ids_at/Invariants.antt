use Rattle.std.specs.Prelude.{◌≡◌, take}
use Rattle.sync_peer.specs.Samples.{ids_at}
use Rattle.sync_peer.proofs.asking.ids_at.Given as goal

abbrev pub invariant-loop-place : goal.invariant-loop-place
invariant-loop-place g l = l.ids ≡ ids_at (g.G.Graph.commands l.graph) (take l.place-index l.places)
