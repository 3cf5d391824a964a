use Rattle.std.proofs.Common.{ℕ, ◌<◌}
use Rattle.policy_rules.specs.WellTyped.{IsWellTypedAt}
use Rattle.policy_check.proofs.checking.first_ill.Given as goal

abbrev pub invariant-loop-number : goal.invariant-loop-number
invariant-loop-number l = (n : ℕ) → n < l.number → IsWellTypedAt l.judge n
