use Rattle.std.proofs.Common.{take}
use Rattle.indexmap.specs.IndexMap.{values}
use Rattle.graph_segments.specs.working.Search.{IsMetBy, Marks}
use Rattle.graph_segments.proofs.segment_graph.SegmentGraph.reach_all.Given as goal

abbrev pub invariant-loop-id : goal.invariant-loop-id
invariant-loop-id l = Marks (IsMetBy (values l.self.list.commands) l.old (take l.id-index l.ids)) l.initial.marks.items l.marks.items
