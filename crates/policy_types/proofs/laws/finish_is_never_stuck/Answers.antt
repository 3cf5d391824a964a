use Rattle.policy_types.proofs.PolicyLaws.{finish_lists}
use Rattle.policy_types.proofs.laws.finish_is_never_stuck.Goals as goal

pub returns : goal.returns
returns c = finish_lists
