use Rattle.std.proofs.Common.{◌≡◌, ◌++◌, Some, length, map, reverse}
use Rattle.policy_meaning.specs.Patterns.{before_gap}
use Rattle.policy_expressions.proofs.patterns.before_gap.Given as goal

abbrev pub invariant-loop-value : goal.invariant-loop-value
invariant-loop-value l = before_gap (l.values ++ map Some (reverse l.behind.items)) ≡ before_gap l.initial.values

abbrev pub decreases-loop-value : goal.decreases-loop-value
decreases-loop-value l = length l.values
