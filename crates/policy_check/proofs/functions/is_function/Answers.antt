use Rattle.policy_check.proofs.Scopes.{distinct_scope}
use Rattle.policy_check.proofs.functions.is_function.Goals as goal

pub function_body_is-requires : goal.function_body_is-requires
function_body_is-requires c = distinct_scope c.args.scope.now c.args.parameters.now c.in_ok-are_parameters.field-0 c.requires c.if-not-branch.false c.in_ok-are_parameters.ensures.distinct
