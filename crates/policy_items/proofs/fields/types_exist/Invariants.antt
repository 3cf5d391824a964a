use Rattle.std.proofs.Common.{◌≡◌, drop, map}
use Rattle.std.specs.List.{list_all}
use Rattle.policy_rules.specs.Heads.{type_exists}
use Rattle.policy_items.proofs.fields.types_exist.Given as goal

abbrev pub invariant-loop-field : goal.invariant-loop-field
invariant-loop-field l = list_all (λ f. type_exists l.heads f.field_type) (map (λ f. f.now) (drop l.field-index l.fields)) ≡ list_all (λ f. type_exists l.heads f.field_type) (map (λ f. f.now) l.fields)
