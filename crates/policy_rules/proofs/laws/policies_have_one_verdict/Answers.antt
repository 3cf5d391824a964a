use Rattle.policy_rules.proofs.PolicyLaws.{has_one_verdict}
use Rattle.policy_rules.proofs.laws.policies_have_one_verdict.Goals as goal

pub returns : goal.returns
returns c = has_one_verdict
