use Rattle.std.proofs.Common.{refl, map}
use Rattle.policy_rules.specs.Shapes.{field_value_types, value_type_of}
use Rattle.policy_rules.specs.Types.{written_type}
use Rattle.policy_meaning.proofs.Loops.{made_more}
use Rattle.policy_meaning.proofs.shaping.push_effect_types.Goals as goal

pub loop-field-preserved : goal.loop-field-preserved
loop-field-preserved c =
    let items = c.args.heads.now in
    rw c.in_ok-push.ensures.ok
    (made_more (λ fields. field_value_types items (map (λ f. f.field) fields)) (λ f. value_type_of items (written_type f.field.field_type)) (λ x xs. refl) c.loop-field.types
    c.args.fields.now c.loop-field.field-index c.field-item.result c.in_ok-value_type.field-0 _ c.loop-field-test.true c.field-item.is c.in_ok-value_type.ensures c.loop-field.invariant)
