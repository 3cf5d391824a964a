use Rattle.std.proofs.Common.{◌∙◌, map, sym}
use Rattle.policy_infer.proofs.FieldFacts.{order_by_set}
use Rattle.policy_infer.proofs.field_lists.in_any_order.Goals as goal

pub returns : goal.returns
returns c =
    c.are_among.ensures
    ∙ order_by_set c.args.fields.now (map (λ b. b.name) c.args.binds.now) c.in-Some.names c.args.types.now (rw c.in-Some.is at c.in_ok-names.ensures)
    (sym c.fit_fields.ensures ∙ c.if-not-fit_fields.false)
