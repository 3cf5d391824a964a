use Rattle.journal.proofs.Committed.{survives}
use Rattle.journal.proofs.laws.settled_journals_survive.Goals as goal

pub returns : goal.returns
returns c = survives
