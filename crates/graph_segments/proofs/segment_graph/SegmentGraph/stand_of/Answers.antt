use Rattle.std.proofs.Common.{◌<◌, length, sym, ap, subst, arith}
use Rattle.indexmap.specs.IndexMap.{values}
use Rattle.graph_segments.proofs.Reading.{locations_len, read_at, segment_there, stands}
use Rattle.graph_segments.proofs.segment_graph.SegmentGraph.stand_of.Goals as goal

pub index-at-requires : goal.index-at-requires
index-at-requires c =
    let g = c.args.self.now in
    let cs = values g.list.commands in
    omega (arith, g.locations.ok.0, ap length g.located, locations_len cs g.list.graph.closed, c.requires)

pub index-segment-requires : goal.index-segment-requires
index-segment-requires c =
    let g = c.args.self.now in
    let cs = values g.list.commands in
    let closed = g.list.graph.closed in
    let at = read_at g.locations.items _ c.args.place c.index-at.result.now g.located (omega (arith, locations_len cs closed, c.requires)) c.index-at.ensures in
    omega (arith, g.segments.ok.0, ap length g.chained, segment_there cs closed c.args.place c.index-at.result.now at)

pub returns : goal.returns
returns c =
    let g = c.args.self.now in
    let cs = values g.list.commands in
    let closed = g.list.graph.closed in
    let at = read_at g.locations.items _ c.args.place c.index-at.result.now g.located (omega (arith, locations_len cs closed, c.requires)) c.index-at.ensures in
    stands cs closed g.list.graph.few c.args.place c.index-at.result.now c.index-segment.result.now at
    (read_at g.segments.items _ c.index-at.result.now.segment c.index-segment.result.now g.chained (segment_there cs closed c.args.place c.index-at.result.now at) c.index-segment.ensures)
