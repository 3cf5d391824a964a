use Rattle.std.proofs.Common.{◌≡◌, ◌++◌, drop, map}
use Rattle.policy_rules.specs.Coverage.{are_distinct_patterns}
use Rattle.policy_infer.proofs.PatternFacts.{are_new}
use Rattle.policy_infer.proofs.coverage.distinct_values.Given as goal

abbrev pub invariant-loop-value : goal.invariant-loop-value
invariant-loop-value l =
    (are_new l.set (map (λ p. p.now) (drop l.value-index l.values)) ≡ are_distinct_patterns (map (λ p. p.now) l.values))
    × (l.set ++ map (λ p. p.now) (drop l.value-index l.values) ≡ map (λ p. p.now) l.values)
