use Rattle.fact_layers.specs.Layers.{shared}
use Rattle.std.proofs.Common.{◌++◌}
use Rattle.fact_layers.proofs.Folds.{share-more}
use Rattle.fact_layers.proofs.folding.share.Goals as goal

pub loop-layer-preserved : goal.loop-layer-preserved
loop-layer-preserved c =
    share-more c.args.layers.now c.loop-layer.layer-index c.layer-item.result c.loop-layer-test.true c.layer-item.is c.loop-layer.next.items c.push.new.self.items c.in_ok-try_clone.field-0
    (shared c.args.next.now.items ++ shared c.args.layers.now) c.in_ok-try_clone.ensures c.in_ok-push.ensures.items c.loop-layer.invariant
