use Rattle.std.proofs.Common.{◌≡◌}
use Rattle.std.specs.Range.Bound.{bound_map}
use Rattle.fact_store.specs.Matching.{selected}
use Rattle.fact_layers.specs.Layers.{layered, shared}
use Rattle.fact_layers.specs.working.Walk.{IsBehindQuery, rows_behind}
use Rattle.fact_layers.proofs.Walking.{ahead}
use Rattle.fact_layers.proofs.walk.next_row.Given as goal

abbrev pub invariant-loop-place : goal.invariant-loop-place
invariant-loop-place l = record {
  behind : IsBehindQuery l.wanted (bound_map (λ x. x.now) l.from);
  left : selected l.wanted (rows_behind (bound_map (λ x. x.now) l.from) (layered (shared l.layers))) ≡ selected l.wanted (rows_behind (bound_map (λ x. x.now) l.initial.start) (layered (shared l.layers)));
}

abbrev pub decreases-loop-place : goal.decreases-loop-place
decreases-loop-place l = ahead (bound_map (λ x. x.now) l.from) (shared l.layers)
