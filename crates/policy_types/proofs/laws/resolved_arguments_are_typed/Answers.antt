use Rattle.policy_types.proofs.Resolving.{resolves_typed}
use Rattle.policy_types.proofs.laws.resolved_arguments_are_typed.Goals as goal

pub returns : goal.returns
returns c = resolves_typed
