use Rattle.braid_run.proofs.PublishedFacts.{heads_within}
use Rattle.braid_run.proofs.laws.heads_are_places.Goals as goal

pub returns : goal.returns
returns c = heads_within
