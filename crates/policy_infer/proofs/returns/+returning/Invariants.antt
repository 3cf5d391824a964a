use Rattle.std.proofs.Common.{◌≡◌, drop}
use Rattle.policy_infer.specs.working.Returns.{arms_return}
use Rattle.policy_infer.proofs.returns.+returning.Given as goal

abbrev pub invariant-arms_return-loop-arm : goal.invariant-arms_return-loop-arm
invariant-arms_return-loop-arm l = arms_return (drop l.arm-index l.arms) ≡ arms_return l.arms
