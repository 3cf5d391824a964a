use Rattle.policy_types.proofs.PolicyLaws.{expressions_give, patterns_ask}
use Rattle.policy_types.proofs.laws.expressions_are_never_stuck.Goals as goal

pub returns-clause-expressions : goal.returns-clause-expressions
returns-clause-expressions c = expressions_give

pub returns-clause-patterns : goal.returns-clause-patterns
returns-clause-patterns c = patterns_ask
