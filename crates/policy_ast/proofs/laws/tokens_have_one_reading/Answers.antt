use Rattle.policy_ast.proofs.grammar.RunLaws.{have_one_reading}
use Rattle.policy_ast.proofs.laws.tokens_have_one_reading.Goals as goal

pub returns : goal.returns
returns c = have_one_reading
