use Rattle.braid_run.proofs.StandingFacts.{one_more}
use Rattle.braid_run.proofs.laws.additions_stand.Goals as goal

pub returns : goal.returns
returns c = one_more
