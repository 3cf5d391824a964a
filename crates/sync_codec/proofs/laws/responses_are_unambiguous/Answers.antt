use Rattle.sync_codec.proofs.MessageLaws.{responses}
use Rattle.sync_codec.proofs.laws.responses_are_unambiguous.Goals as goal

pub returns : goal.returns
returns c = responses
