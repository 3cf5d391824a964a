-- The arms of a `match`: what they take, and that one of them takes each value.
use Rattle.std.specs.Prelude.{Bool, true, false, not, ◌&&◌, ◌||◌, List, [], ◌∷◌, ◌++◌, Option, Some, None, unwrap_or}
use Rattle.std.specs.List.{list_all, list_any}
use Rattle.std.specs.Option.{is_some}
use Rattle.std.specs.Ordering.{int_eq}
use Rattle.std.specs.Str.{bytes_eq}
use Rattle.policy_ast.specs.declared.item.Item.{Item}
use Rattle.policy_ast.specs.declared.literal.Literal.{Literal}
use Rattle.policy_ast.specs.declared.literal.Literal.TheVariants as literal
use Rattle.policy_ast.specs.declared.pattern.ArmPattern.{ArmPattern}
use Rattle.policy_ast.specs.declared.pattern.ArmPattern.TheVariants as arm_pattern
use Rattle.policy_ast.specs.declared.pattern.PatternLiteral.{PatternLiteral}
use Rattle.policy_ast.specs.declared.pattern.PatternLiteral.TheVariants as pattern
use Rattle.policy_rules.specs.Heads.{enum_named, literal_type}
use Rattle.policy_rules.specs.Types.{fits}
use Rattle.policy_rules.specs.declared.types.NamedType.{NamedType, out-NamedType}
use Rattle.policy_rules.specs.declared.types.NamedType.TheOpen.{NamedType-F}
use Rattle.policy_rules.specs.declared.types.NamedType.TheVariants as ty

-- `match` takes int, bool, string, an enum or an optional.
abbrev pub may_match_layer : List Item → NamedType-F NamedType → Bool
may_match_layer items NamedType-F.Int = true
may_match_layer items NamedType-F.Bool = true
may_match_layer items NamedType-F.Str = true
may_match_layer items (NamedType-F.Enum name) = is_some (enum_named items name)
may_match_layer items (NamedType-F.Optional inner) = true
may_match_layer items other = false

-- A value of the type may be matched.
abbrev pub may_match : List Item → NamedType → Bool
may_match items t = may_match_layer items (out-NamedType t)

-- The literals are one value.
abbrev pub same_literal : Literal → Literal → Bool
same_literal (literal.Number n) (literal.Number other) = int_eq n other
same_literal (literal.Text text) (literal.Text other) = bytes_eq text other
same_literal literal.True literal.True = true
same_literal literal.False literal.False = true
same_literal (literal.Variant name variant) (literal.Variant other place) = bytes_eq name other && bytes_eq variant place
same_literal _ _ = false

-- Two patterns list one value.
abbrev pub same_pattern : PatternLiteral → PatternLiteral → Bool
same_pattern (pattern.Literal l) (pattern.Literal other) = same_literal l other
same_pattern pattern.None pattern.None = true
same_pattern _ _ = false

-- The type of a value that an arm takes.
abbrev pub pattern_type : List Item → PatternLiteral → Option NamedType
pattern_type items (pattern.Literal l) = literal_type items l
pattern_type items pattern.None = Some (ty.Optional ty.Never)

-- A type, where there is one, fits another.
abbrev pub some_fits : Option NamedType → NamedType → Bool
some_fits None u = false
some_fits (Some t) u = fits t u

-- The values that an arm lists.
abbrev pub listed : ArmPattern → List PatternLiteral
listed arm_pattern.Any = []
listed (arm_pattern.Literals literals) = literals

-- The values that all arms list, in order.
abbrev pub all_listed : List ArmPattern → List PatternLiteral
all_listed [] = []
all_listed (p ∷ patterns) = listed p ++ all_listed patterns

-- The pattern is `_`.
abbrev pub is_any : ArmPattern → Bool
is_any arm_pattern.Any = true
is_any other = false

-- No two list the same value.
abbrev pub are_distinct_patterns : List PatternLiteral → Bool
are_distinct_patterns [] = true
are_distinct_patterns (p ∷ patterns) = not (list_any (same_pattern p) patterns) && are_distinct_patterns patterns

-- `_` stands last, if at all.
abbrev pub any_is_last : List ArmPattern → Bool
any_is_last [] = true
any_is_last (p ∷ []) = true
any_is_last (p ∷ patterns) = not (is_any p) && any_is_last patterns

-- All values of a bool or an enum are listed.
abbrev pub all_values_layer : List Item → NamedType-F NamedType → List PatternLiteral → Bool
all_values_layer items NamedType-F.Bool patterns =
    list_any (same_pattern (pattern.Literal literal.True)) patterns && list_any (same_pattern (pattern.Literal literal.False)) patterns
all_values_layer items (NamedType-F.Enum name) patterns =
    list_all (λ variant. list_any (same_pattern (pattern.Literal (literal.Variant name variant))) patterns) (unwrap_or (enum_named items name) [])
all_values_layer items other patterns = false

-- All values of the type are listed.
abbrev pub lists_all_values : List Item → NamedType → List PatternLiteral → Bool
lists_all_values items t = all_values_layer items (out-NamedType t)

-- There is an arm, `_` stands last, and it is there or all values are listed.
abbrev pub arms_cover : List Item → NamedType → List ArmPattern → Bool
arms_cover items t [] = false
arms_cover items t patterns = any_is_last patterns && (list_any is_any patterns || lists_all_values items t (all_listed patterns))

-- The patterns of a `match` over a value of this type: their values fit it and are distinct, and one of the arms takes each value.
abbrev pub are_arm_patterns : List Item → NamedType → List ArmPattern → Bool
are_arm_patterns items t patterns =
    may_match items t && list_all (λ p. some_fits (pattern_type items p) t) (all_listed patterns) && are_distinct_patterns (all_listed patterns)
    && arms_cover items t patterns
