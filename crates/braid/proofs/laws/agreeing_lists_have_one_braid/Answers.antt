use Rattle.braid.proofs.Agreement.{same_braid}
use Rattle.braid.proofs.laws.agreeing_lists_have_one_braid.Goals as goal

pub returns : goal.returns
returns c = λ one other closed also agree. same_braid one other closed also agree
