use Rattle.std.specs.Prelude.{◌≡◌, take}
use Rattle.sync_peer.specs.Missing.{held_ids}
use Rattle.sync_peer.proofs.answering.held_ids.Given as goal

abbrev pub invariant-loop-id : goal.invariant-loop-id
invariant-loop-id g l = l.held ≡ held_ids (g.G.Graph.commands l.graph) (take l.id-index l.ids)
