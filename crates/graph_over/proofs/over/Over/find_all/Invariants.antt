use Rattle.std.specs.Prelude.{◌++◌, take}
use Rattle.graph_set.specs.working.Walks.{IsNumbered, MarksWhere}
use Rattle.graph_over.proofs.over.Over.find_all.Given as goal

abbrev pub invariant-loop-id : goal.invariant-loop-id
invariant-loop-id g l = MarksWhere (IsNumbered (g.G.Graph.commands l.self.base.now ++ l.self.added.items) l.older (take l.id-index l.ids)) l.initial.walk.marks.items l.initial.walk.due.items l.walk.marks.items l.walk.due.items
