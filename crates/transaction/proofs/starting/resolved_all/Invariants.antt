use Rattle.std.proofs.Common.{◌≡◌, ◌++◌, drop, length, option_map}
use Rattle.policy_rules.specs.Shapes.{field_value_types}
use Rattle.policy_rules.specs.WellTyped.{items_of}
use Rattle.transaction.specs.Acting.{resolved_all}
use Rattle.transaction.proofs.starting.resolved_all.Given as goal

abbrev pub invariant-loop-i : goal.invariant-loop-i
invariant-loop-i l =
    (option_map (λ rest. l.values ++ rest) (resolved_all (items_of l.policy) (field_value_types (items_of l.policy) (drop l.i l.parameters)) (drop l.i l.args))
    ≡ resolved_all (items_of l.policy) (field_value_types (items_of l.policy) l.parameters) l.args)
    × (length l.parameters ≡ length l.args)
