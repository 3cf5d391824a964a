use Rattle.std.proofs.Common.{◌≡◌, drop}
use Rattle.fact_store.specs.Rows.{are_keys}
use Rattle.policy_expressions.proofs.patterns.are_keys.Given as goal

abbrev pub invariant-loop-value : goal.invariant-loop-value
invariant-loop-value l = are_keys (drop l.value-index l.values) ≡ are_keys l.values
