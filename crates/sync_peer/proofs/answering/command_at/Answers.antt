use Rattle.command.proofs.PlaceFacts.{next_at}
use Rattle.sync_peer.proofs.answering.command_at.Goals as goal

pub returns-clause-formed : goal.returns-clause-formed
returns-clause-formed g c = (next_at (g.G.Graph.commands c.args.graph.now) (g.met.G.Graph.closed c.args.graph.now) c.args.place c.at.result.now c.at.ensures).formed.in_form
