use Rattle.std.proofs.Common.{◌≡◌, drop, map}
use Rattle.policy_rules.specs.Finish.{are_plain}
use Rattle.policy_infer.proofs.plain.+plain.Given as goal

abbrev pub invariant-are_plain_binds-loop-bind : goal.invariant-are_plain_binds-loop-bind
invariant-are_plain_binds-loop-bind l = are_plain (map (λ b. b.value) (drop l.bind-index l.binds)) ≡ are_plain (map (λ b. b.value) l.binds)
