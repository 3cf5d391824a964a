use Rattle.std.proofs.Common.{arith}
use Rattle.policy_meaning.proofs.DeclaredFacts.{decoded_typed}
use Rattle.policy_meaning.proofs.PayloadFacts.{decoded_by}
use Rattle.policy_meaning.proofs.calls.read_value.Goals as goal

pub returns-clause-value : goal.returns-clause-value
returns-clause-value c =
    decoded_by c.args.shapes.now c.requires c.args.t.now c.args.bytes.now (λ i. omega (arith, c.type_inv.bytes i)) c.decode_value.result c.decode_value.ensures.found c.decode_value.ensures.none

pub returns-clause-typed : goal.returns-clause-typed
returns-clause-typed c = decoded_typed c.args.shapes.now c.args.t.now c.args.bytes.now c.decode_value.result c.decode_value.ensures.found
