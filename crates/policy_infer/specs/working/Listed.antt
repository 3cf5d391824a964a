-- The values that the arms of a `match` list, as they are kept.
use Rattle.std.specs.Prelude.{◌≡◌, true, false, List, Option, Some, None}
use Rattle.policy_rules.specs.Coverage.{are_distinct_patterns}
use Rattle.policy_ast.specs.declared.literal.Literal.TheVariants as literal
use Rattle.policy_ast.specs.declared.pattern.PatternLiteral.{PatternLiteral}
use Rattle.policy_ast.specs.declared.pattern.PatternLiteral.TheVariants as pattern
use Rattle.policy_infer.specs.declared.pattern_set.Listed.{Listed}
use Rattle.policy_infer.specs.declared.pattern_set.Listed.TheVariants as listed

-- The value as a pattern lists it.
abbrev pub listed_value : Listed → PatternLiteral
listed_value (listed.Number n) = pattern.Literal (literal.Number n)
listed_value (listed.Text text) = pattern.Literal (literal.Text text.now)
listed_value listed.True = pattern.Literal literal.True
listed_value listed.False = pattern.Literal literal.False
listed_value (listed.Variant name variant) = pattern.Literal (literal.Variant name.now variant.now)
listed_value listed.None = pattern.None

-- The set has just these values in their order, and there is none where two of them are the same.
abbrev pub AreListed : List PatternLiteral → Option (List PatternLiteral) → Type 0
AreListed values None = are_distinct_patterns values ≡ false
AreListed values (Some set) = (are_distinct_patterns values ≡ true) × (set ≡ values)
