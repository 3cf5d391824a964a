use Rattle.policy_meaning.proofs.CallLaws.{one_call}
use Rattle.policy_meaning.proofs.laws.commands_have_one_call.Goals as goal

pub returns : goal.returns
returns c = one_call
