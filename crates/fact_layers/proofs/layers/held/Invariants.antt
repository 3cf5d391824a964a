use Rattle.std.proofs.Common.{◌≡◌, drop}
use Rattle.fact_layers.specs.Layers.{shared}
use Rattle.fact_layers.specs.working.Said.{held}
use Rattle.fact_layers.proofs.layers.held.Given as goal

abbrev pub invariant-loop-layer : goal.invariant-loop-layer
invariant-loop-layer l = held l.place (shared (drop l.layer-index l.layers)) ≡ held l.place (shared l.layers)
