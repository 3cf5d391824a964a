use Rattle.std.proofs.Common.{length}
use Rattle.policy_expressions.proofs.patterns.+value_given.Given as goal

abbrev pub decreases-value_given : goal.decreases-value_given
decreases-value_given l = length l.frees.now
