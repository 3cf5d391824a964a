use Rattle.std.proofs.Common.{◌&&◌, subst}
use Rattle.policy_infer.proofs.PartFacts.{logic_is}
use Rattle.policy_infer.specs.working.Answers.{Judges}
use Rattle.policy_infer.specs.working.Behind.{is_bool_of}
use Rattle.policy_infer.proofs.forms.logic_of.Goals as goal

pub returns : goal.returns
returns c o p first second =
    subst (λ found. Judges c.bool_where.result found) (logic_is o p)
    (c.bool_where.ensures (is_bool_of o && is_bool_of p) (c.both_hold.ensures (is_bool_of o) (is_bool_of p) (c.check_of-first.ensures o first) (c.check_of.ensures p second)))
