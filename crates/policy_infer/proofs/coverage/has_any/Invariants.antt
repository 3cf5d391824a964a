use Rattle.std.proofs.Common.{◌≡◌, drop, map}
use Rattle.std.specs.List.{list_any}
use Rattle.policy_rules.specs.Coverage.{is_any}
use Rattle.policy_infer.proofs.coverage.has_any.Given as goal

abbrev pub invariant-loop-arm : goal.invariant-loop-arm
invariant-loop-arm l = list_any is_any (map (λ a. a.pattern) (drop l.arm-index l.arms)) ≡ list_any is_any (map (λ a. a.pattern) l.arms)
