use Rattle.std.proofs.Common.{◌≡◌, drop}
use Rattle.policy_meaning.specs.Arms.{first_body}
use Rattle.policy_expressions.proofs.arms.first_body.Given as goal

abbrev pub invariant-loop-arm : goal.invariant-loop-arm
invariant-loop-arm l = first_body l.known l.value (drop l.arm-index l.arms) ≡ first_body l.known l.value l.arms
