use Rattle.std.proofs.Common.{◌∙◌, refl, subst}
use Rattle.policy_rules.specs.Expressions.{value_part}
use Rattle.policy_rules.specs.Scopes.{Scope}
use Rattle.policy_rules.specs.declared.types.NamedType.TheVariants as ty
use Rattle.policy_infer.specs.working.Answers.{Judges}
use Rattle.policy_infer.specs.working.Types.{gap_types_of, pattern_type}
use Rattle.policy_infer.proofs.statement_rules.is_pattern.Goals as goal

pub returns : goal.returns
returns c =
    let items = c.args.heads.now in
    let context = c.args.context.now in
    let scope = c.args.scope.now in
    record {
      judged =
          c.is_typed.ensures (pattern_type items context c.args.p.now ty.Bool scope)
          (c.pattern_type.ensures (gap_types_of items context c.args.p.now.keys scope) (gap_types_of items context (value_part c.args.p.now.values) scope) ty.Bool c.pattern_keys-keys.ensures.judged
          (subst (λ (s : Scope). Judges c.pattern_values-values.result (gap_types_of items context (value_part c.args.p.now.values) s)) c.pattern_keys-keys.ensures.kept c.pattern_values-values.ensures.judged) refl);
      kept = c.pattern_values-values.ensures.kept ∙ c.pattern_keys-keys.ensures.kept;
    }
