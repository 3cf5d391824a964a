use Rattle.policy_expressions.proofs.DistinctFacts.{fact_distinct}
use Rattle.policy_expressions.proofs.known.Known.fact_named.Goals as goal

pub returns-clause-distinct : goal.returns-clause-distinct
returns-clause-distinct c = fact_distinct c.self.inside.heads c.self.invariant c.args.name.now c.fact_named.result c.fact_named.ensures
