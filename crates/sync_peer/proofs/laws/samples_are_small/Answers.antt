use Rattle.sync_peer.proofs.SampleFacts.{small_sample}
use Rattle.sync_peer.proofs.laws.samples_are_small.Goals as goal

pub returns : goal.returns
returns c = small_sample
