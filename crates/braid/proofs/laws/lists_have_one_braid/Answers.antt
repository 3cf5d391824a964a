use Rattle.braid.proofs.Agreement.{one_braid}
use Rattle.braid.proofs.Existence.{some_braid}
use Rattle.braid.proofs.laws.lists_have_one_braid.Goals as goal

pub returns : goal.returns
returns c = λ commands closed. record { some = some_braid commands closed; one = λ a b p q. one_braid commands closed (λ x. Unit {0}) a b p q }
