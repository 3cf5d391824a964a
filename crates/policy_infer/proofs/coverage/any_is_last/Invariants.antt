use Rattle.std.proofs.Common.{◌≡◌, drop, map}
use Rattle.policy_rules.specs.Coverage.{any_is_last}
use Rattle.policy_infer.proofs.coverage.any_is_last.Given as goal

abbrev pub invariant-loop-i : goal.invariant-loop-i
invariant-loop-i l = any_is_last (map (λ a. a.pattern) (drop l.i l.arms)) ≡ any_is_last (map (λ a. a.pattern) l.arms)
