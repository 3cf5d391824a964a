use Rattle.std.proofs.Common.{◌+◌, ap, drop, map}
use Rattle.policy_infer.proofs.FieldFacts.{left_at, names_turn}
use Rattle.policy_infer.proofs.field_lists.distinct_fields.Goals as goal

pub loop-field-preserved : goal.loop-field-preserved
loop-field-preserved c =
    names_turn c.loop-field.names c.insert.new.self (map (λ f. f.name) c.args.fields.now) (map (λ f. f.name) (drop c.loop-field.field-index c.args.fields.now)) c.field-item.result.name
    (map (λ f. f.name) (drop (c.loop-field.field-index + 1) c.args.fields.now)) c.in_ok-insert.field-0
    (ap (map (λ f. f.name)) (left_at c.args.fields.now c.loop-field.field-index c.field-item.result c.loop-field-test.true c.field-item.is)) c.in_ok-insert.ensures.is_new c.if-not-branch.false
    c.in_ok-insert.ensures.added c.loop-field.invariant
