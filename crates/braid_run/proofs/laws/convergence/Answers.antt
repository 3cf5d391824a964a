use Rattle.braid_run.proofs.FinalFacts.{converges}
use Rattle.braid_run.proofs.laws.convergence.Goals as goal

pub returns : goal.returns
returns c = converges
