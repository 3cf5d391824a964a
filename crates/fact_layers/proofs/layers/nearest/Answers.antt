use Rattle.std.proofs.Common.{option_copied}
use Rattle.std.specs.Range.Bound.{bound_map}
use Rattle.fact_layers.proofs.Folds.{nearest-more}
use Rattle.fact_layers.proofs.layers.nearest.Goals as goal

pub loop-layer-preserved : goal.loop-layer-preserved
loop-layer-preserved c =
    nearest-more c.args.layers.now c.loop-layer.layer-index c.layer-item.result c.loop-layer-test.true c.layer-item.is (bound_map (λ x. x.now) c.args.from) c.deref.result.now
    (option_copied c.loop-layer.least) (option_copied c.nearest_in.result) (option_copied c.lesser-least.result) c.deref.ensures c.loop-layer.invariant c.nearest_in.ensures c.lesser-least.ensures
