use Rattle.std.proofs.Common.{sym, subst}
use Rattle.policy_rules.specs.WellTyped.{IsWellTyped}
use Rattle.transaction.proofs.preparing.act.Goals as goal

pub start_of-requires : goal.start_of-requires
start_of-requires g c = record { well_typed = subst IsWellTyped (sym c.policy.ensures.policy) c.policy.ensures.well_typed }
