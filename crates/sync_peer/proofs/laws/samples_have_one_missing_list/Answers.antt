use Rattle.sync_peer.proofs.MissingFacts.{has_one_missing}
use Rattle.sync_peer.proofs.laws.samples_have_one_missing_list.Goals as goal

pub returns : goal.returns
returns c = has_one_missing
