use Rattle.std.proofs.Common.{Some, map, subst}
use Rattle.policy_infer.proofs.PartFacts.{row_is}
use Rattle.policy_infer.specs.working.Answers.{Judges}
use Rattle.policy_infer.specs.working.Parts.{is_row_of}
use Rattle.policy_rules.specs.Expressions.{value_part}
use Rattle.policy_infer.proofs.uses.pattern_type.Goals as goal

pub returns : goal.returns
returns c ks vs u keys values t =
    let items = c.args.heads.now in
    let p = c.args.p.now in
    let key_names = map (λ f. f.name) p.keys in
    let value_names = map (λ f. f.name) (value_part p.values) in
    subst (λ found. Judges c.only_where.result found) (row_is items p.fact key_names ks value_names vs u)
    (c.only_where.ensures (is_row_of items p.fact key_names ks value_names vs) (Some u) (c.is_row.ensures ks vs keys values) t)
