use Rattle.std.proofs.Common.{subst}
use Rattle.policy_rules.specs.WellTyped.{IsWellTyped}
use Rattle.replica.specs.Kept.{Kept}
use Rattle.replica.proofs.replica.Replica.policy.Goals as goal

pub returns-clause-well_typed : goal.returns-clause-well_typed
returns-clause-well_typed g c = subst (λ (k : Kept _). IsWellTyped k.policy) c.self.view_is c.policy.ensures.well_typed
