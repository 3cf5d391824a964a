use Rattle.std.proofs.Common.{◌≡◌, ◌++◌, drop}
use Rattle.policy_meaning.specs.Environments.{bound_parameters}
use Rattle.policy_rules.specs.Types.{declared}
use Rattle.policy_expressions.proofs.env.Env.of_parameters.Given as goal

abbrev pub invariant-loop-parameter : goal.invariant-loop-parameter
invariant-loop-parameter l =
    l.env ++ bound_parameters (declared (drop l.parameter-index l.parameters)) l.values ≡ bound_parameters (declared l.parameters) l.initial.values
