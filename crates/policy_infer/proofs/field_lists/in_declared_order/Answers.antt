use Rattle.std.proofs.Common.{sym}
use Rattle.policy_infer.proofs.FieldFacts.{order_differs}
use Rattle.policy_infer.proofs.field_lists.in_declared_order.Goals as goal

pub returns-then-binds-fields : goal.returns-then-binds-fields
returns-then-binds-fields c = sym (order_differs c.args.fields.now c.args.binds.now c.args.types.now c.if-binds-fields.true)
