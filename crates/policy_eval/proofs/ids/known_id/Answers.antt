use Rattle.std.proofs.Common.{◌∙◌, ap, arith, nat_eq, sym}
use Rattle.policy_meaning.proofs.ArgumentFacts.{fits_id_is}
use Rattle.policy_eval.proofs.ids.known_id.Goals as goal

pub returns : goal.returns
returns c = sym (fits_id_is c.args._bytes.now (λ i. omega (arith, c.type_inv._bytes i))) ∙ ap (λ n. nat_eq n 32) c.requires
