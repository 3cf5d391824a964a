use Rattle.std.proofs.Common.{◌≡◌, ◌++◌, drop, option_map}
use Rattle.policy_meaning.specs.Environments.{bound}
use Rattle.policy_meaning.specs.Finish.{bind_names}
use Rattle.policy_meaning.specs.Values.{in_order}
use Rattle.policy_rules.specs.Scopes.{names_in}
use Rattle.policy_expressions.proofs.structs.values_copied.Given as goal

abbrev pub invariant-loop-field : goal.invariant-loop-field
invariant-loop-field l =
    option_map (λ more. l.all ++ more) (in_order (names_in (drop l.field-index l.fields)) (bound (bind_names l.binds) l.values))
    ≡ in_order (names_in l.fields) (bound (bind_names l.binds) l.values)
