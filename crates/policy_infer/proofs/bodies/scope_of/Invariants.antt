use Rattle.std.proofs.Common.{◌≡◌, ◌++◌, true, drop}
use Rattle.policy_rules.specs.FieldLists.{are_distinct}
use Rattle.policy_rules.specs.Scopes.{names_in}
use Rattle.policy_infer.proofs.bodies.scope_of.Given as goal

abbrev pub invariant-loop-parameter : goal.invariant-loop-parameter
invariant-loop-parameter l = (are_distinct (names_in l.parameters) ≡ true) × (l.scope ++ drop l.parameter-index l.parameters ≡ l.parameters)
