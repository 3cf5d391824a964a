use Rattle.std.proofs.Common.{◌≡◌, drop, map}
use Rattle.policy_rules.specs.FieldLists.{are_distinct}
use Rattle.policy_rules.specs.Items.{field_names}
use Rattle.policy_items.proofs.fields.are_distinct.Given as goal

abbrev pub invariant-loop-place : goal.invariant-loop-place
invariant-loop-place l = are_distinct (field_names (map (λ f. f.now) (drop l.place l.fields))) ≡ are_distinct (field_names (map (λ f. f.now) l.fields))
