use Rattle.braid_run.proofs.FinalFacts.{stays_final, stays_here}
use Rattle.braid_run.proofs.laws.finality.Goals as goal

pub returns : goal.returns
returns c = record { here = stays_here; later = stays_final }
