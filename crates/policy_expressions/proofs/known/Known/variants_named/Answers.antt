use Rattle.policy_expressions.proofs.VariantFacts.{distinct_named, few_named}
use Rattle.policy_expressions.proofs.known.Known.variants_named.Goals as goal

pub returns-clause-few : goal.returns-clause-few
returns-clause-few c = few_named c.self.inside.heads c.self.invariant c.args.name.now c.enum_named.result c.enum_named.ensures

pub returns-clause-distinct : goal.returns-clause-distinct
returns-clause-distinct c = distinct_named c.self.inside.heads c.self.invariant c.args.name.now c.enum_named.result c.enum_named.ensures
