use Rattle.std.proofs.Common.{subst}
use Rattle.policy_rules.specs.WellTyped.{IsWellTyped}
use Rattle.policy_types.proofs.checked.Checked.policy.Goals as goal

-- src/checked.rt
pub returns-clause-well_typed : goal.returns-clause-well_typed
returns-clause-well_typed c = subst IsWellTyped c.self.view_is c.self.invariant
