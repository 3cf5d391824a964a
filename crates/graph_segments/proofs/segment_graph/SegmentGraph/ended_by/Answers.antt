use Rattle.std.proofs.Common.{sym}
use Rattle.indexmap.specs.IndexMap.{values}
use Rattle.graph_segments.proofs.Reading.{ends_there, goes_there}
use Rattle.graph_segments.proofs.segment_graph.SegmentGraph.ended_by.Goals as goal

pub returns-then-segment-place-clause-value : goal.returns-then-segment-place-clause-value
returns-then-segment-place-clause-value c =
    let g = c.args.self.now in
    ends_there (values g.list.commands) g.list.graph.closed c.in-Some.place c.stand_of.result.0 c.stand_of.result.1 c.args.id.now c.stand_of.ensures (sym c.in-Some.ensures) c.if-segment-place.true

pub returns-else-segment-place-clause-value : goal.returns-else-segment-place-clause-value
returns-else-segment-place-clause-value c =
    let g = c.args.self.now in
    goes_there (values g.list.commands) g.list.graph.closed c.in-Some.place c.stand_of.result.0 c.stand_of.result.1 c.args.id.now c.stand_of.ensures (sym c.in-Some.ensures) c.if-segment-place.false
