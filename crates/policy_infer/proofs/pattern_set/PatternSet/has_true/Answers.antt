use Rattle.std.proofs.Common.{◌∙◌, ap}
use Rattle.std.specs.List.{list_any}
use Rattle.policy_ast.specs.declared.literal.Literal.TheVariants as literal
use Rattle.policy_ast.specs.declared.pattern.PatternLiteral.TheVariants as pattern
use Rattle.policy_rules.specs.Coverage.{same_pattern}
use Rattle.policy_infer.proofs.ListedFacts.{any_listed}
use Rattle.policy_infer.specs.declared.pattern_set.Listed.TheVariants as listed
use Rattle.policy_infer.proofs.pattern_set.PatternSet.has_true.Goals as goal

pub returns : goal.returns
returns c =
    c.contains.ensures ∙ any_listed listed.True c.self.inside.values.keys ∙ ap (list_any (same_pattern (pattern.Literal literal.True))) c.self.view_is
