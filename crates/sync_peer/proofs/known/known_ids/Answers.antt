use Rattle.std.proofs.Common.{arith}
use Rattle.sync_peer.proofs.PlaceLists.{next_walk}
use Rattle.sync_peer.proofs.known.known_ids.Goals as goal

pub loop-place-preserved : goal.loop-place-preserved
loop-place-preserved g c = record {
  so_far =
      next_walk (g.G.Graph.commands c.args.graph.now) c.args.sample.now c.loop-place.known.keys c.add_parents_at.new.known.keys c.loop-place.place c.loop-place-test.true
      c.loop-place.invariant.within c.loop-place.invariant.so_far c.in_ok-add_parents_at.ensures;
  within = omega (arith, c.loop-place.invariant.within);
}
