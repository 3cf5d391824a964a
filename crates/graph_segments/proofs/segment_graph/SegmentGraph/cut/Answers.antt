use Rattle.indexmap.specs.IndexMap.{values}
use Rattle.graph_segments.proofs.Reading.{cut_there}
use Rattle.graph_segments.proofs.segment_graph.SegmentGraph.cut.Goals as goal

pub returns : goal.returns
returns c = let g = c.args.self.now in cut_there (values g.list.commands) g.list.graph.closed c.args.place c.stand_of.result.0 c.stand_of.result.1 c.stand_of.ensures
