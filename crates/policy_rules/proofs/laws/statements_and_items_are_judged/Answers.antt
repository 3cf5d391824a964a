use Rattle.policy_rules.proofs.PolicyLaws.{are_judged}
use Rattle.policy_rules.proofs.laws.statements_and_items_are_judged.Goals as goal

pub returns : goal.returns
returns c = are_judged
