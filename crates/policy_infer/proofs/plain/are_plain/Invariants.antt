use Rattle.std.proofs.Common.{◌≡◌, drop}
use Rattle.policy_rules.specs.Finish.{are_plain}
use Rattle.policy_infer.proofs.plain.are_plain.Given as goal

abbrev pub invariant-loop-e : goal.invariant-loop-e
invariant-loop-e l = are_plain (drop l.e-index l.es) ≡ are_plain l.es
