use Rattle.std.proofs.Common.{subst}
use Rattle.policy_infer.proofs.PartFacts.{choice_is}
use Rattle.policy_infer.specs.working.Answers.{Judges}
use Rattle.policy_infer.specs.working.Behind.{is_bool_of}
use Rattle.policy_infer.specs.working.Parts.{joined_of}
use Rattle.policy_infer.proofs.forms.choice_of.Goals as goal

pub returns : goal.returns
returns c h o p head first second =
    subst (λ found. Judges c.only_where.result found) (choice_is h o p) (c.only_where.ensures (is_bool_of h) (joined_of o p) (c.check_of-head.ensures h head) (c.joined_of.ensures o p first second))
