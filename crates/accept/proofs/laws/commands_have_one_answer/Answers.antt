use Rattle.accept.proofs.TakeFacts.{one_answer}
use Rattle.accept.proofs.laws.commands_have_one_answer.Goals as goal

pub returns : goal.returns
returns c = one_answer
