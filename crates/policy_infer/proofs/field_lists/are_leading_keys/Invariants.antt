use Rattle.std.proofs.Common.{◌≡◌, ◌≤◌, length, drop, map}
use Rattle.policy_rules.specs.FieldLists.{are_leading_keys}
use Rattle.policy_infer.proofs.field_lists.are_leading_keys.Given as goal

abbrev pub invariant-loop-i : goal.invariant-loop-i
invariant-loop-i l =
    (length l.gaps ≡ length l.fields) × (length l.fields ≤ length l.keys)
    × (are_leading_keys (drop l.i l.keys) (map (λ f. f.name) (drop l.i l.fields)) (drop l.i l.gaps) ≡ are_leading_keys l.keys (map (λ f. f.name) l.fields) l.gaps)
