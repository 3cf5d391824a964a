use Rattle.std.specs.Prelude.{◌≤◌, drop, length}
use Rattle.sync_peer.specs.working.Walks.{HaveSame, walked}
use Rattle.sync_peer.proofs.known.known_ids.Given as goal

abbrev pub invariant-loop-place : goal.invariant-loop-place
invariant-loop-place g l = record {
  so_far : HaveSame l.known.keys (walked (drop l.place (g.G.Graph.commands l.graph)) l.sample);
  within : l.place ≤ length (g.G.Graph.commands l.graph);
}

abbrev pub decreases-loop-place : goal.decreases-loop-place
decreases-loop-place g l = l.place
