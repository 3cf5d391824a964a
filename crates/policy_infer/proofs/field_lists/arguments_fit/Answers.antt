use Rattle.std.proofs.Common.{sym}
use Rattle.policy_infer.proofs.FieldFacts.{arguments_differ}
use Rattle.policy_infer.proofs.field_lists.arguments_fit.Goals as goal

pub returns-then-types-parameters : goal.returns-then-types-parameters
returns-then-types-parameters c = sym (arguments_differ c.args.types.now c.args.parameters.now c.if-types-parameters.true)
