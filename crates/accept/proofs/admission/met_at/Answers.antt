use Rattle.command.proofs.PlaceFacts.{next_at}
use Rattle.accept.proofs.admission.met_at.Goals as goal

pub met-requires-clause-held : goal.met-requires-clause-held
met-requires-clause-held g c = (next_at (g.G.Graph.commands c.args.graph.now) (g.met.G.Graph.closed c.args.graph.now) c.args.place c.at.result.now c.at.ensures).formed.in_form
