use Rattle.std.proofs.Common.{◌≡◌, drop, map, not}
use Rattle.std.specs.List.{list_all}
use Rattle.policy_rules.specs.Items.{field_names}
use Rattle.policy_rules.specs.Names.{is_among}
use Rattle.policy_items.proofs.fields.is_no_key.Given as goal

abbrev pub invariant-loop-value : goal.invariant-loop-value
invariant-loop-value l = list_all (λ name. not (is_among name (field_names (map (λ f. f.now) l.keys)))) (field_names (drop l.value-index l.values)) ≡ list_all (λ name. not (is_among name (field_names (map (λ f. f.now) l.keys)))) (field_names l.values)
