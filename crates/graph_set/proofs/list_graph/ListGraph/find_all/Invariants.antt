use Rattle.std.proofs.Common.{take}
use Rattle.indexmap.specs.IndexMap.{values}
use Rattle.graph_set.specs.working.Walks.{IsNumbered, MarksWhere}
use Rattle.graph_set.proofs.list_graph.ListGraph.find_all.Given as goal

abbrev pub invariant-loop-id : goal.invariant-loop-id
invariant-loop-id l = MarksWhere (IsNumbered (values l.self.commands) l.older (take l.id-index l.ids)) l.initial.walk.marks.items l.initial.walk.due.items l.walk.marks.items l.walk.due.items
