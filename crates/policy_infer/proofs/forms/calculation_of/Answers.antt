use Rattle.std.proofs.Common.{◌&&◌, Some, subst}
use Rattle.policy_infer.proofs.PartFacts.{calculation_is}
use Rattle.policy_infer.specs.working.Answers.{Judges}
use Rattle.policy_infer.specs.working.Parts.{is_number_of}
use Rattle.policy_rules.specs.Expressions.{arithmetic_type}
use Rattle.policy_infer.proofs.forms.calculation_of.Goals as goal

pub returns : goal.returns
returns c o p first second =
    subst (λ found. Judges c.only_where.result found) (calculation_is c.args.op o p)
    (c.only_where.ensures (is_number_of o && is_number_of p) (Some (arithmetic_type c.args.op))
    (c.both_hold-passed.ensures (is_number_of o) (is_number_of p) (c.is_number-first.ensures o first) (c.is_number.ensures p second)) c.arithmetic_type.ensures)
