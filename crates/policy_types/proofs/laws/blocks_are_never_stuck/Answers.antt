use Rattle.policy_types.proofs.PolicyLaws.{blocks_end}
use Rattle.policy_types.proofs.laws.blocks_are_never_stuck.Goals as goal

pub returns : goal.returns
returns c = λ policy call rows well is author id typed. blocks_end policy well call rows is author id typed
