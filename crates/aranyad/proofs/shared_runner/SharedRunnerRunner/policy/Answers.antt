use Rattle.policy_rules.specs.WellTyped.{IsWellTyped}
use Rattle.std.proofs.Common.{subst}
use Rattle.aranyad.proofs.shared_runner.SharedRunnerRunner.policy.Goals as goal

pub returns-clause-well_typed : goal.returns-clause-well_typed
returns-clause-well_typed g c = subst (λ r. IsWellTyped (g.R.Runner.rules r)) c.deref.ensures c.policy.ensures.well_typed
