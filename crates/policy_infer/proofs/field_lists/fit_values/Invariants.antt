use Rattle.std.proofs.Common.{◌≡◌, length, drop, map}
use Rattle.policy_rules.specs.FieldLists.{fit_values}
use Rattle.policy_infer.proofs.field_lists.fit_values.Given as goal

abbrev pub invariant-loop-i : goal.invariant-loop-i
invariant-loop-i l =
    (length l.gaps ≡ length l.fields)
    × (fit_values l.values (map (λ f. f.name) (drop l.i l.fields)) (drop l.i l.gaps) ≡ fit_values l.values (map (λ f. f.name) l.fields) l.gaps)
