use Rattle.std.proofs.Common.{length}
use Rattle.policy_expressions.proofs.structs.+value_bound.Given as goal

abbrev pub decreases-value_bound : goal.decreases-value_bound
decreases-value_bound l = length l.binds.now
