use Rattle.std.proofs.Common.{◌<◌, length, arith}
use Rattle.sync_peer.specs.working.Walks.{is_among, unknown}
use Rattle.sync_peer.proofs.PlaceLists.{next_unknown, next_within}
use Rattle.sync_peer.proofs.answering.unknown_places.Goals as goal

pub loop-place-preserved : goal.loop-place-preserved
loop-place-preserved g c =
    let cs = g.G.Graph.commands c.args.graph.now in
    let keys = c.args.known.now.keys in
    let within = c.loop-place-test.true in
    record {
      so_far =
          next_unknown cs keys c.loop-place.places c.add_missing.new.places c.loop-place.place c.id_at.result (unknown cs keys) c.id_at.ensures c.in_ok-add_missing.ensures
          c.loop-place.invariant.so_far;
      within =
          next_within cs keys (λ p. p < length cs) c.loop-place.places c.add_missing.new.places c.loop-place.place (is_among keys c.id_at.result) c.in_ok-add_missing.ensures
          c.loop-place.invariant.within (omega (arith, within, c.len-place-end.ensures));
    }
