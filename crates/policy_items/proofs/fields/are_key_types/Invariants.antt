use Rattle.std.proofs.Common.{◌≡◌, drop}
use Rattle.std.specs.List.{list_all}
use Rattle.policy_rules.specs.Items.{is_key_type}
use Rattle.policy_items.proofs.fields.are_key_types.Given as goal

abbrev pub invariant-loop-key : goal.invariant-loop-key
invariant-loop-key l = list_all (λ f. is_key_type f.field_type) (drop l.key-index l.keys) ≡ list_all (λ f. is_key_type f.field_type) l.keys
