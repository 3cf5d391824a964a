-- How the contracts see what is known of facts, functions and enums.
use Rattle.std.specs.Prelude.{Bool, false, List, option_map, unwrap_or}
use Rattle.policy_ast.specs.declared.item.Item.{Item}
use Rattle.policy_rules.specs.Heads.{FactHead, FunctionHead, enum_named}
use Rattle.policy_rules.specs.Names.{Name, is_among}
use Rattle.policy_heads.specs.declared.head.FactHead.{FactHead as KnownFact}
use Rattle.policy_heads.specs.declared.head.FunctionHead.{FunctionHead as KnownFunction}

-- A fact's mark, keys and values, as the rules speak of them.
abbrev pub fact_view : KnownFact → FactHead
fact_view fact = record { is_immutable = fact.is_immutable; keys = fact.keys.now; values = fact.values.now }

-- A function's parameters and the type of its result, as the rules speak of them.
abbrev pub function_view : KnownFunction → FunctionHead
function_view function = record { parameters = function.parameters.now; result = function.result.now }

-- The enum that a name means has this variant.
abbrev pub is_variant : List Item → Name → Name → Bool
is_variant items name variant = unwrap_or (option_map (is_among variant) (enum_named items name)) false
