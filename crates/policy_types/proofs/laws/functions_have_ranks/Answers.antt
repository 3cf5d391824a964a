use Rattle.policy_types.proofs.Ranks.{has_ranks}
use Rattle.policy_types.proofs.laws.functions_have_ranks.Goals as goal

pub returns : goal.returns
returns c = has_ranks
