use Rattle.std.proofs.Common.{◌≡◌, ◌++◌, drop, map}
use Rattle.policy_rules.specs.Items.{effect_fields}
use Rattle.policy_items.proofs.fields.effect_refs.Given as goal

abbrev pub invariant-loop-field : goal.invariant-loop-field
invariant-loop-field l = map (λ f. f.now) l.refs.items ++ effect_fields (drop l.field-index l.fields) ≡ effect_fields l.fields
