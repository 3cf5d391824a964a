use Rattle.base_bytes.proofs.Payloads.{payloads}
use Rattle.base_bytes.proofs.laws.payloads_are_unambiguous.Goals as goal

pub returns : goal.returns
returns c = payloads
