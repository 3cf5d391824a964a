use Rattle.policy_types.proofs.PolicyLaws.{functions_give}
use Rattle.policy_types.proofs.laws.functions_are_never_stuck.Goals as goal

pub returns : goal.returns
returns c = functions_give
