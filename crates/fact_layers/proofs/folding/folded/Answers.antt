use Rattle.std.proofs.Common.{◌-◌, arith, ap, length, ◌∙◌, BTreeMap}
use Rattle.fact_store.specs.declared.wanted.Wanted.{Wanted}
use Rattle.fact_layers.specs.Layers.{Said}
use Rattle.fact_layers.specs.working.Said.{are_keyed}
use Rattle.fact_layers.proofs.Folds.{keyed-here}
use Rattle.fact_layers.proofs.folding.folded.Goals as goal

pub put_all-requires : goal.put_all-requires
put_all-requires c =
    ap (λ (m : BTreeMap Wanted Said). are_keyed m.entries) c.deref.ensures
    ∙ keyed-here c.args.layers.now (length c.args.layers.now - 1 - c.loop-done.done) c.index-layers-layers.result (omega (arith, c.loop-done-test.true)) c.index-layers-layers.is c.requires
