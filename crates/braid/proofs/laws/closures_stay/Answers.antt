use Rattle.braid.proofs.Appends.{stays, stays_under}
use Rattle.braid.proofs.laws.closures_stay.Goals as goal

pub returns-clause-command : goal.returns-clause-command
returns-clause-command c = λ commands command closed inside. stays commands command closed inside

pub returns-clause-tips : goal.returns-clause-tips
returns-clause-tips c = λ commands tips within. stays_under commands tips within
