use Rattle.std.proofs.Common.{◌<◌, length, subst, sym}
use Rattle.indexmap.specs.IndexMap.{values}
use Rattle.graph_segments.proofs.Reading.{first_within, read_at}
use Rattle.graph_segments.proofs.segment_graph.SegmentGraph.first_of.Goals as goal

pub returns-clause-within : goal.returns-clause-within
returns-clause-within c =
    let g = c.args.self.now in
    let cs = values g.list.commands in
    first_within cs g.list.graph.closed c.args.number c.index.result.now (read_at g.segments.items _ c.args.number c.index.result.now g.chained c.requires c.index.ensures)
