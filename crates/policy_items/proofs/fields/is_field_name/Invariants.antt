use Rattle.std.proofs.Common.{◌≡◌, drop, map}
use Rattle.policy_rules.specs.Items.{field_names}
use Rattle.policy_rules.specs.Names.{is_among}
use Rattle.policy_items.proofs.fields.is_field_name.Given as goal

abbrev pub invariant-loop-field : goal.invariant-loop-field
invariant-loop-field l = is_among l.name (field_names (map (λ f. f.now) (drop l.field-index l.fields))) ≡ is_among l.name (field_names (map (λ f. f.now) l.fields))
