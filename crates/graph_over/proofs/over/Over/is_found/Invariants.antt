use Rattle.std.specs.Prelude.{◌+◌, ◌++◌, length}
use Rattle.graph_set.specs.working.Walks.{IsWalked, unmarked}
use Rattle.graph_over.proofs.over.Over.is_found.Given as goal

abbrev pub invariant-loop-number : goal.invariant-loop-number
invariant-loop-number g l = IsWalked (g.G.Graph.commands l.self.base.now ++ l.self.added.items) l.older l.newer l.walk.marks.items l.walk.due.items

abbrev pub decreases-loop-number : goal.decreases-loop-number
decreases-loop-number g l = unmarked l.walk.marks.items + length l.walk.due.items
