use Rattle.std.proofs.Common.{rules}
use Rattle.sync_peer.proofs.PlaceLists.{response_is}
use Rattle.sync_peer.proofs.answering.response.Goals as goal

pub returns-clause-response : goal.returns-clause-response
returns-clause-response g c =
    response_is (g.G.Graph.commands c.args.graph.now) c.args.request.now c.args.missing.now c.args.sample _ c.in_ok-commands.commands c.requires.within c.requires.sample (search rules) (search rules)
