use Rattle.braid.proofs.Finality.{final}
use Rattle.braid.proofs.laws.finalize_is_final.Goals as goal

pub returns : goal.returns
returns c = λ commands f closed line inside is. final commands closed line f inside is
