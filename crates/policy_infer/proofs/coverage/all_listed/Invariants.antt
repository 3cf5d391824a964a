use Rattle.std.proofs.Common.{◌≡◌, ◌++◌, drop, map}
use Rattle.policy_rules.specs.Coverage.{all_listed}
use Rattle.policy_infer.proofs.coverage.all_listed.Given as goal

abbrev pub invariant-loop-arm : goal.invariant-loop-arm
invariant-loop-arm l = map (λ p. p.now) l.all.items ++ all_listed (map (λ a. a.pattern) (drop l.arm-index l.arms)) ≡ all_listed (map (λ a. a.pattern) l.arms)
