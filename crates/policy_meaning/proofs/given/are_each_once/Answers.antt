use Rattle.std.proofs.Common.{arith}
use Rattle.policy_meaning.proofs.ArgumentFacts.{too_many, given_as_many}
use Rattle.policy_meaning.specs.Values.{field_names}
use Rattle.policy_meaning.specs.working.Resolutions.{given_names}
use Rattle.policy_meaning.proofs.given.are_each_once.Goals as goal

pub returns-then-given-fields : goal.returns-then-given-fields
returns-then-given-fields c =
    too_many (field_names c.args.item.now) (given_names c.args.given.now) (omega (arith, c.requires.fields, c.if-given-fields.true, given_as_many c.args.given.now))
