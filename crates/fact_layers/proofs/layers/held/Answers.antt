use Rattle.std.proofs.Common.{sym, ◌∙◌}
use Rattle.fact_layers.proofs.Folds.{held-here}
use Rattle.fact_layers.proofs.layers.held.Goals as goal

pub returns-in-Some : goal.returns-in-Some
returns-in-Some c =
    c.as_ref.ensures.value
    ∙ sym (held-here c.args.layers.now c.loop-layer.layer-index c.layer-item.result c.loop-layer-test.true c.layer-item.is c.args.place.now c.deref.result.now c.in-Some.said.now c.deref.ensures c.in-Some.ensures.value)
    ∙ c.loop-layer.invariant
