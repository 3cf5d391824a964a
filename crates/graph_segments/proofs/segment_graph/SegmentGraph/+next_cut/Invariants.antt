use Rattle.std.proofs.Common.{length}
use Rattle.graph_segments.proofs.segment_graph.SegmentGraph.+next_cut.Given as goal

abbrev pub decreases-next_cut : goal.decreases-next_cut
decreases-next_cut l = length l.parents.now
