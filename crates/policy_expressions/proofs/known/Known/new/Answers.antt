use Rattle.std.proofs.Common.{sym, subst}
use Rattle.policy_expressions.proofs.VariantFacts.{are_items}
use Rattle.policy_expressions.specs.Policies.{AreItems}
use Rattle.policy_rules.specs.WellTyped.{IsWellTyped}
use Rattle.policy_expressions.proofs.known.Known.new.Goals as goal

pub invariant_of-result : goal.invariant_of-result
invariant_of-result c =
    subst AreItems (sym c.in_ok-heads.ensures)
    (are_items c.policy-policy.result.now (subst IsWellTyped (sym c.policy-policy.ensures.policy) c.policy-policy.ensures.well_typed) c.items-items.ensures.few)
