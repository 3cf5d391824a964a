use Rattle.std.proofs.Common.{subst}
use Rattle.policy_rules.specs.WellTyped.{IsWellTyped}
use Rattle.policy_eval.proofs.tree_runner.TreeRunnerRunner.policy.Goals as goal

pub returns-clause-well_typed : goal.returns-clause-well_typed
returns-clause-well_typed c = subst IsWellTyped c.self.view_is c.policy.ensures.well_typed
