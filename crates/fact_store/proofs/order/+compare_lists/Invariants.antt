use Rattle.std.proofs.Common.{length}
use Rattle.fact_store.proofs.order.+compare_lists.Given as goal

abbrev pub decreases-compare_lists : goal.decreases-compare_lists
decreases-compare_lists l = length l.values.now
