use Rattle.std.proofs.Common.{◌≡◌, drop}
use Rattle.policy_expressions.specs.Views.{env_of}
use Rattle.policy_meaning.specs.Environments.{value_in}
use Rattle.policy_expressions.proofs.env.Env.value_in.Given as goal

abbrev pub invariant-loop-binding : goal.invariant-loop-binding
invariant-loop-binding l = value_in (env_of (drop l.binding-index l.binding-items)) l.name ≡ value_in l.self l.name
