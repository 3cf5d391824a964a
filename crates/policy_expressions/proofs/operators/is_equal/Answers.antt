use Rattle.std.specs.Bool.{one_answer}
use Rattle.fact_store.proofs.Sameness.{same_value_decides}
use Rattle.policy_expressions.proofs.operators.is_equal.Goals as goal

pub returns : goal.returns
returns c = one_answer _ _ c.is_same.ensures (same_value_decides c.args.first.now c.args.second.now)
