use Rattle.std.specs.Prelude.{◌≡◌, take}
use Rattle.graph_over.proofs.over.OverGraph.copy.Given as goal

abbrev pub invariant-loop-place : goal.invariant-loop-place
invariant-loop-place g l = record {
  same_base : g.G.Graph.commands l.copy.base.now ≡ g.G.Graph.commands l.self.base.now;
  same_added : l.copy.added.items ≡ take l.place l.self.added.items;
}
