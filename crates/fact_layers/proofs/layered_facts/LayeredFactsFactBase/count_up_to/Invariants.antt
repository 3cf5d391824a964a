use Rattle.std.proofs.Common.{◌≡◌, ◌+◌, length}
use Rattle.std.specs.Range.Bound.{bound_map}
use Rattle.fact_store.specs.Matching.{selected}
use Rattle.fact_layers.specs.Layers.{layered, shared}
use Rattle.fact_layers.specs.working.Walk.{IsBehindQuery, rows_behind}
use Rattle.fact_layers.proofs.layered_facts.LayeredFactsFactBase.count_up_to.Given as goal

abbrev pub invariant-loop-found : goal.invariant-loop-found
invariant-loop-found l = record {
  behind : IsBehindQuery l.wanted (bound_map (λ x. x.now) l.from);
  left : l.found + length (selected l.wanted (rows_behind (bound_map (λ x. x.now) l.from) (layered (shared l.self.layers.items)))) ≡ length (selected l.wanted (layered (shared l.self.layers.items)));
}
