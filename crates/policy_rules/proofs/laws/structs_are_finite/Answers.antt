use Rattle.policy_rules.proofs.Reaching.{structs_are_finite}
use Rattle.policy_rules.proofs.laws.structs_are_finite.Goals as goal

pub returns : goal.returns
returns c = structs_are_finite
