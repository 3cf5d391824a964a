use Rattle.policy_types.proofs.PolicyLaws.{actions_go}
use Rattle.policy_types.proofs.laws.actions_are_never_stuck.Goals as goal

pub returns : goal.returns
returns c = λ policy action arguments device rows well is is_device typed. actions_go policy well action arguments device rows is is_device typed
