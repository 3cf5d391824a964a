use Rattle.std.proofs.Common.{◌∙◌, ap, sym}
use Rattle.policy_rules.specs.Finish.{is_plain}
use Rattle.policy_infer.proofs.PlainForms.{plain_struct}
use Rattle.policy_infer.proofs.plain.+plain.Goals as goal

pub is_plain-returns-in-Struct : goal.is_plain-returns-in-Struct
is_plain-returns-in-Struct t c =
    c.are_plain_binds.ensures ∙ sym (ap is_plain (rw c.as_slice.ensures c.in-Struct.is) ∙ plain_struct c.in-Struct.field-0 c.as_slice.result.now)
