use Rattle.std.proofs.Common.{◌∙◌, ap}
use Rattle.std.specs.List.{list_any}
use Rattle.policy_ast.specs.declared.literal.Literal.TheVariants as literal
use Rattle.policy_ast.specs.declared.pattern.PatternLiteral.TheVariants as pattern
use Rattle.policy_rules.specs.Coverage.{same_pattern}
use Rattle.policy_infer.proofs.ListedFacts.{any_listed}
use Rattle.policy_infer.specs.declared.pattern_set.Listed.TheVariants as listed
use Rattle.policy_infer.proofs.pattern_set.PatternSet.has_variant.Goals as goal

pub returns : goal.returns
returns c =
    c.contains.ensures ∙ any_listed (listed.Variant c.as_str.result c.as_str-2.result) c.self.inside.values.keys
    ∙ ap (list_any (same_pattern (pattern.Literal (literal.Variant c.as_str.result.now c.as_str-2.result.now)))) c.self.view_is
    ∙ ap (λ name. list_any (same_pattern (pattern.Literal (literal.Variant name c.as_str-2.result.now))) c.args.self.now) c.as_str.ensures.text
    ∙ ap (λ variant. list_any (same_pattern (pattern.Literal (literal.Variant c.args.name.now variant))) c.args.self.now) c.as_str-2.ensures.text
