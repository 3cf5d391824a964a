use Rattle.sync_peer.proofs.PlaceLists.{next_ids}
use Rattle.sync_peer.proofs.asking.ids_at.Goals as goal

pub loop-place-preserved : goal.loop-place-preserved
loop-place-preserved g c =
    next_ids (g.G.Graph.commands c.args.graph.now) c.args.places.now c.loop-place.place-index c.loop-place.ids c.add_id.new.ids c.loop-place-test.true c.in_ok-add_id.ensures c.loop-place.invariant
