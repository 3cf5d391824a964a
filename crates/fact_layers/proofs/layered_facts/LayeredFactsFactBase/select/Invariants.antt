use Rattle.std.proofs.Common.{◌≡◌, ◌++◌, length}
use Rattle.std.specs.Range.Bound.{bound_map}
use Rattle.fact_store.specs.Matching.{selected}
use Rattle.fact_layers.specs.Layers.{layered, shared}
use Rattle.fact_layers.specs.working.Walk.{IsBehindQuery, rows_behind}
use Rattle.fact_layers.proofs.layered_facts.LayeredFactsFactBase.select.Given as goal

abbrev pub invariant-loop-place : goal.invariant-loop-place
invariant-loop-place l = record {
  behind : IsBehindQuery l.wanted (bound_map (λ x. x.now) l.from);
  left : l.found.items ++ selected l.wanted (rows_behind (bound_map (λ x. x.now) l.from) (layered (shared l.self.layers.items))) ≡ selected l.wanted (layered (shared l.self.layers.items));
}

abbrev pub decreases-loop-place : goal.decreases-loop-place
decreases-loop-place l = length (selected l.wanted (rows_behind (bound_map (λ x. x.now) l.from) (layered (shared l.self.layers.items))))
