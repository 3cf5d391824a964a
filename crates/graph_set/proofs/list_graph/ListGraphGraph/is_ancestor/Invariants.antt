use Rattle.std.proofs.Common.{◌+◌, length}
use Rattle.indexmap.specs.IndexMap.{values}
use Rattle.graph_set.specs.working.Walks.{IsWalked, unmarked}
use Rattle.graph_set.proofs.list_graph.ListGraphGraph.is_ancestor.Given as goal

abbrev pub invariant-loop-number : goal.invariant-loop-number
invariant-loop-number l = IsWalked (values l.self.commands) l.older l.newer l.walk.marks.items l.walk.due.items

abbrev pub decreases-loop-number : goal.decreases-loop-number
decreases-loop-number l = unmarked l.walk.marks.items + length l.walk.due.items
