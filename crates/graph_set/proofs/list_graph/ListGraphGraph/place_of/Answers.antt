use Rattle.std.proofs.Common.{◌∙◌}
use Rattle.graph_set.proofs.Entries.{found_place}
use Rattle.graph_set.proofs.list_graph.ListGraphGraph.place_of.Goals as goal

pub returns : goal.returns
returns c = c.get_index_of.ensures.index ∙ found_place c.args.self.now.commands.entries c.args.id.now c.args.self.now.graph.named
