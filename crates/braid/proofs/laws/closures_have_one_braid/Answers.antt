use Rattle.braid.proofs.Closures.{closures}
use Rattle.braid.proofs.laws.closures_have_one_braid.Goals as goal

pub returns : goal.returns
returns c = λ commands closed. closures commands closed
