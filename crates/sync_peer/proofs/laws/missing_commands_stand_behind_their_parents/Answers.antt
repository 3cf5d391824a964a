use Rattle.sync_peer.proofs.MissingFacts.{are_parted}
use Rattle.sync_peer.proofs.laws.missing_commands_stand_behind_their_parents.Goals as goal

pub returns : goal.returns
returns c = are_parted
