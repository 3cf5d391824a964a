use Rattle.sync_peer.specs.working.Walks.{commands_at}
use Rattle.sync_peer.proofs.WalkFacts.{found_missing}
use Rattle.sync_peer.proofs.answering.missing_places.Goals as goal

pub returns-clause-missing : goal.returns-clause-missing
returns-clause-missing g c =
    let cs = g.G.Graph.commands c.args.graph.now in
    found_missing c.args.sample.now c.in_ok-known.known.keys cs (commands_at cs c.in_ok-places.places) (g.met.G.Graph.closed c.args.graph.now) c.in_ok-known.ensures c.in_ok-places.ensures.unknown
