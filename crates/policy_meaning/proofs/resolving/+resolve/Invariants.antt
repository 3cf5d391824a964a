use Rattle.std.proofs.Common.{◌≡◌, ◌++◌, drop, option_map}
use Rattle.policy_meaning.specs.working.Resolutions.{given_of, names_at, values_for}
use Rattle.policy_rules.specs.WellTyped.{items_of}
use Rattle.policy_meaning.proofs.resolving.+resolve.Given as goal

abbrev pub invariant-fields_of-loop-i : goal.invariant-fields_of-loop-i
invariant-fields_of-loop-i l =
    option_map (λ values. l.values ++ values) (values_for (drop l.i (names_at (items_of l.policy) l.number)) (drop l.i l.types) (given_of (items_of l.policy) l.given))
    ≡ values_for (names_at (items_of l.policy) l.number) l.types (given_of (items_of l.policy) l.given)
