use Rattle.std.proofs.Common.{option_copied, take}
use Rattle.std.specs.Range.Bound.{bound_map}
use Rattle.fact_layers.specs.Layers.{shared}
use Rattle.fact_layers.specs.working.Nearest.{IsNearest}
use Rattle.fact_layers.proofs.layers.nearest.Given as goal

abbrev pub invariant-loop-layer : goal.invariant-loop-layer
invariant-loop-layer l = IsNearest (bound_map (λ x. x.now) l.from) (shared (take l.layer-index l.layers)) (option_copied l.least)
