-- Which arm of a `match` takes a value: the first that lists it or takes any.
use Rattle.std.specs.Prelude.{Bool, true, false, if◌then◌else◌, List, [], ◌∷◌, Option, Some, None}
use Rattle.std.specs.List.{list_any}
use Rattle.base_bytes.specs.declared.value.Value.{Value}
use Rattle.base_bytes.specs.declared.value.Value.TheVariants as value
use Rattle.fact_store.specs.Sameness.{same_value}
use Rattle.policy_ast.specs.declared.item.Item.{Item}
use Rattle.policy_ast.specs.declared.pattern.ArmPattern.{ArmPattern}
use Rattle.policy_ast.specs.declared.pattern.ArmPattern.TheVariants as arm_pattern
use Rattle.policy_ast.specs.declared.pattern.PatternLiteral.{PatternLiteral}
use Rattle.policy_ast.specs.declared.pattern.PatternLiteral.TheVariants as pattern
use Rattle.policy_ast.specs.declared.statement.Arm.{Arm}
use Rattle.policy_meaning.specs.Environments.{literal_value}

-- The value that an arm lists.
abbrev pub listed_value : List Item → PatternLiteral → Option Value
listed_value items (pattern.Literal l) = literal_value items l
listed_value items pattern.None = Some value.Nothing

abbrev pub is_value : Value → Option Value → Bool
is_value v None = false
is_value v (Some other) = same_value other v

abbrev pub takes : List Item → Value → ArmPattern → Bool
takes items v arm_pattern.Any = true
takes items v (arm_pattern.Literals literals) = list_any (λ p. is_value v (listed_value items p)) literals

-- The body of the first arm that takes the value.
abbrev pub first_body : {S : Type 0} → List Item → Value → List (Arm S) → Option (List S)
first_body items v [] = None
first_body items v (a ∷ arms) = if takes items v a.pattern then Some a.body else first_body items v arms
