use Rattle.std.proofs.Common.{get_or}
use Rattle.indexmap.specs.IndexMap.{values}
use Rattle.command.specs.Cuts.{cuts}
use Rattle.graph_segments.specs.working.Search.{IsSearched}
use Rattle.graph_segments.proofs.segment_graph.SegmentGraph.is_found.Given as goal

abbrev pub invariant-loop-number : goal.invariant-loop-number
invariant-loop-number l = IsSearched (values l.self.list.commands) l.old (get_or (cuts (values l.self.list.commands)) l.older 0) l.newer l.last l.number l.marks.items

abbrev pub decreases-loop-number : goal.decreases-loop-number
decreases-loop-number l = l.number
