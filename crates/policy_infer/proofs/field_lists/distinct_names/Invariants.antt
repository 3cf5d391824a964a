use Rattle.std.proofs.Common.{◌≡◌, ℕ, ◌||◌, List, drop, map}
use Rattle.policy_rules.specs.FieldLists.{are_distinct}
use Rattle.policy_rules.specs.Names.{is_among}
use Rattle.policy_infer.proofs.FieldFacts.{are_new}
use Rattle.policy_infer.proofs.field_lists.distinct_names.Given as goal

abbrev pub invariant-loop-bind : goal.invariant-loop-bind
invariant-loop-bind l =
    (are_new l.names (map (λ b. b.name) (drop l.bind-index l.binds)) ≡ are_distinct (map (λ b. b.name) l.binds))
    × ((q : List ℕ) → (is_among q l.names || is_among q (map (λ b. b.name) (drop l.bind-index l.binds))) ≡ is_among q (map (λ b. b.name) l.binds))
