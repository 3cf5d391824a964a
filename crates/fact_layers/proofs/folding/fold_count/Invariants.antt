use Rattle.std.proofs.Common.{◌≤◌}
use Rattle.fact_layers.proofs.folding.fold_count.Given as goal

abbrev pub invariant-loop-index : goal.invariant-loop-index
invariant-loop-index l = l.count ≤ l.index
