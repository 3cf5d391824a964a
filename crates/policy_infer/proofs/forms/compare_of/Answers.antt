use Rattle.std.proofs.Common.{◌&&◌, subst, sym, ◌∙◌}
use Rattle.std.specs.Option.{is_some}
use Rattle.policy_infer.proofs.PartFacts.{equality_is, order_is}
use Rattle.policy_infer.specs.working.Answers.{Judges}
use Rattle.policy_infer.specs.working.Parts.{is_number_of, joined_of}
use Rattle.policy_infer.proofs.forms.compare_of.Goals as goal

pub returns-then-is_equality : goal.returns-then-is_equality
returns-then-is_equality c o p first second =
    subst (λ found. Judges c.bool_where.result found) (equality_is c.args.op o p (sym c.is_equality.ensures ∙ c.if-is_equality.true))
    (c.bool_where.ensures (is_some (joined_of o p)) (c.is_typed.ensures (joined_of o p) (c.joined_of.ensures o p first second)))

pub returns : goal.returns
returns c o p first second =
    subst (λ found. Judges c.bool_where-2.result found) (order_is c.args.op o p (sym c.is_equality.ensures ∙ c.if-is_equality.false))
    (c.bool_where-2.ensures (is_number_of o && is_number_of p) (c.both_hold.ensures (is_number_of o) (is_number_of p) (c.is_number-first.ensures o first) (c.is_number.ensures p second)))
