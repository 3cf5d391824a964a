use Rattle.policy_meaning.proofs.DeclaredFacts.{typed_fields}
use Rattle.policy_meaning.proofs.calls.payload_fields.Goals as goal

pub returns-in-Some-clause-typed : goal.returns-in-Some-clause-typed
returns-in-Some-clause-typed c =
    rw c.fields_of.ensures (typed_fields c.args.shapes.now c.args.number c.in-Some.value (rw c.in-Some.is at c.in_ok-value.ensures.typed))
