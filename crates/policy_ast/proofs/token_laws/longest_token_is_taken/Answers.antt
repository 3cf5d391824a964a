use Rattle.policy_ast.proofs.LongestTokens.{takes_longest}
use Rattle.policy_ast.proofs.token_laws.longest_token_is_taken.Goals as goal

pub returns : goal.returns
returns c = takes_longest
