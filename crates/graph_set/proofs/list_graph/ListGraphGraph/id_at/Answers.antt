use Rattle.graph_set.proofs.Entries.{id_there}
use Rattle.graph_set.proofs.list_graph.ListGraphGraph.id_at.Goals as goal

pub returns : goal.returns
returns c = id_there c.args.self.now.commands.entries c.args.place c.in-Some.id.now c.in-Some.field-0-1.now c.args.self.now.graph.named c.in-Some.ensures.entry
