use Rattle.std.proofs.Common.{◌≡◌, drop}
use Rattle.std.specs.List.{list_all, list_any}
use Rattle.policy_ast.specs.declared.literal.Literal.TheVariants as literal
use Rattle.policy_ast.specs.declared.pattern.PatternLiteral.TheVariants as pattern
use Rattle.policy_rules.specs.Coverage.{same_pattern}
use Rattle.policy_infer.proofs.coverage.lists_variants.Given as goal

abbrev pub invariant-loop-variant : goal.invariant-loop-variant
invariant-loop-variant l =
    list_all (λ variant. list_any (same_pattern (pattern.Literal (literal.Variant l.name variant))) l.set) (drop l.variant-index l.variants)
    ≡ list_all (λ variant. list_any (same_pattern (pattern.Literal (literal.Variant l.name variant))) l.set) l.variants
