use Rattle.std.proofs.Common.{subst}
use Rattle.policy_infer.proofs.PartFacts.{negation_is}
use Rattle.policy_infer.specs.working.Answers.{Judges}
use Rattle.policy_infer.specs.working.Behind.{is_bool_of}
use Rattle.policy_infer.proofs.forms.unary_of.Goals as goal

pub returns-in-Not : goal.returns-in-Not
returns-in-Not c o found = subst (λ typed. Judges c.bool_where.result typed) (negation_is c.args.op o c.in-Not.is) (c.bool_where.ensures (is_bool_of o) (c.check_of.ensures o found))
