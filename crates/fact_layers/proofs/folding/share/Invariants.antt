use Rattle.std.proofs.Common.{◌≡◌, ◌++◌, drop}
use Rattle.fact_layers.specs.Layers.{shared}
use Rattle.fact_layers.proofs.folding.share.Given as goal

abbrev pub invariant-loop-layer : goal.invariant-loop-layer
invariant-loop-layer l = shared l.next.items ++ shared (drop l.layer-index l.layers) ≡ shared l.initial.next.items ++ shared l.layers
