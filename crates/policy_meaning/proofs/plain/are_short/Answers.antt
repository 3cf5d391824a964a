use Rattle.std.proofs.Common.{arith}
use Rattle.policy_meaning.proofs.ArgumentFacts.{fits_bytes_is}
use Rattle.policy_meaning.proofs.plain.are_short.Goals as goal

pub returns : goal.returns
returns c = fits_bytes_is c.args.bytes.now (λ i. omega (arith, c.type_inv.bytes i))
