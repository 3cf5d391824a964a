use Rattle.policy_expressions.proofs.DistinctFacts.{struct_distinct}
use Rattle.policy_expressions.proofs.known.Known.struct_named.Goals as goal

pub returns-clause-distinct : goal.returns-clause-distinct
returns-clause-distinct c = struct_distinct c.self.inside.heads c.self.invariant c.args.name.now c.struct_named.result c.struct_named.ensures
