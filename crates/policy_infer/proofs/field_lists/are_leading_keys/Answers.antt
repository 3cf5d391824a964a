use Rattle.std.proofs.Common.{sym}
use Rattle.policy_infer.proofs.FieldFacts.{keys_lack}
use Rattle.policy_infer.proofs.field_lists.are_leading_keys.Goals as goal

pub returns-then-keys-fields : goal.returns-then-keys-fields
returns-then-keys-fields c = sym (keys_lack c.args.keys.now c.args.fields.now c.args.gaps.now c.if-keys-fields.true)
