use Rattle.sync_codec.proofs.MessageLaws.{requests}
use Rattle.sync_codec.proofs.laws.requests_are_unambiguous.Goals as goal

pub returns : goal.returns
returns c = requests
