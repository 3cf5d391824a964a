use Rattle.std.proofs.Common.{◌≡◌, length, drop, map}
use Rattle.policy_rules.specs.FieldLists.{fit_fields}
use Rattle.policy_infer.proofs.field_lists.fit_fields.Given as goal

abbrev pub invariant-loop-i : goal.invariant-loop-i
invariant-loop-i l =
    (length l.types ≡ length l.binds)
    × (fit_fields l.fields (map (λ b. b.name) (drop l.i l.binds)) (drop l.i l.types) ≡ fit_fields l.fields (map (λ b. b.name) l.binds) l.types)
