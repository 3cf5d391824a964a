use Rattle.std.specs.Prelude.{◌≡◌, ◌<◌, ◌++◌, drop, length}
use Rattle.std.specs.List.{All}
use Rattle.sync_peer.specs.working.Walks.{commands_at, unknown}
use Rattle.sync_peer.proofs.answering.unknown_places.Given as goal

abbrev pub invariant-loop-place : goal.invariant-loop-place
invariant-loop-place g l = record {
  so_far :
      commands_at (g.G.Graph.commands l.graph) l.places ++ unknown (drop l.place (g.G.Graph.commands l.graph)) l.known.keys
      ≡ unknown (g.G.Graph.commands l.graph) l.known.keys;
  within : All (λ p. p < length (g.G.Graph.commands l.graph)) l.places;
}
