use Rattle.std.proofs.Common.{◌≡◌, ℕ, ◌||◌, List, drop, map}
use Rattle.policy_rules.specs.FieldLists.{are_distinct}
use Rattle.policy_rules.specs.Names.{is_among}
use Rattle.policy_infer.proofs.FieldFacts.{are_new}
use Rattle.policy_infer.proofs.field_lists.distinct_fields.Given as goal

abbrev pub invariant-loop-field : goal.invariant-loop-field
invariant-loop-field l =
    (are_new l.names (map (λ f. f.name) (drop l.field-index l.fields)) ≡ are_distinct (map (λ f. f.name) l.fields))
    × ((q : List ℕ) → (is_among q l.names || is_among q (map (λ f. f.name) (drop l.field-index l.fields))) ≡ is_among q (map (λ f. f.name) l.fields))
