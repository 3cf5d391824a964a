use Rattle.policy_rules.proofs.ExistingTypes.{types_exist}
use Rattle.policy_rules.proofs.laws.types_exist.Goals as goal

pub returns : goal.returns
returns c = types_exist
