use Rattle.std.proofs.Common.{◌≡◌, ◌++◌, drop, map}
use Rattle.policy_meaning.specs.Environments.{value_in}
use Rattle.policy_meaning.specs.Patterns.{named_values}
use Rattle.policy_rules.specs.Scopes.{names_in}
use Rattle.policy_expressions.proofs.patterns.values_wanted.Given as goal

abbrev pub invariant-loop-field : goal.invariant-loop-field
invariant-loop-field l =
    l.all ++ map (value_in (named_values (map (λ f. f.name) l.frees) l.values)) (names_in (drop l.field-index l.fields))
    ≡ map (value_in (named_values (map (λ f. f.name) l.frees) l.values)) (names_in l.fields)
