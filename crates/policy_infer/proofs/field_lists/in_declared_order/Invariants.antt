use Rattle.std.proofs.Common.{◌≡◌, length, drop, map}
use Rattle.policy_rules.specs.FieldLists.{in_declared_order}
use Rattle.policy_infer.proofs.field_lists.in_declared_order.Given as goal

abbrev pub invariant-loop-i : goal.invariant-loop-i
invariant-loop-i l =
    (length l.types ≡ length l.binds) × (length l.binds ≡ length l.fields)
    × (in_declared_order (drop l.i l.fields) (map (λ b. b.name) (drop l.i l.binds)) (drop l.i l.types) ≡ in_declared_order l.fields (map (λ b. b.name) l.binds) l.types)
