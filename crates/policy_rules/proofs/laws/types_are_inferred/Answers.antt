use Rattle.policy_rules.proofs.TypeLaws.{has_one_type}
use Rattle.policy_rules.proofs.laws.types_are_inferred.Goals as goal

pub returns : goal.returns
returns c = has_one_type
