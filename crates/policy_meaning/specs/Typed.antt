-- Facts, commands, arguments and effects of the types that a policy declares.
use Rattle.std.specs.Prelude.{ℕ, Bool, false, ◌&&◌, IsTrue, List, map, slice_get, option_map, unwrap_or}
use Rattle.std.specs.List.{list_all}
use Rattle.base_bytes.specs.Values.{has_type, hold_in_order}
use Rattle.base_bytes.specs.declared.shapes.Shapes.{Shapes}
use Rattle.base_bytes.specs.declared.ty.Ty.{Ty}
use Rattle.base_bytes.specs.declared.value.Value.{Value}
use Rattle.fact_store.specs.declared.row.Row.{Row}
use Rattle.policy_ast.specs.declared.field.Field.{Field}
use Rattle.policy_ast.specs.declared.item.Item.{Item}
use Rattle.policy_ast.specs.declared.item.Item.TheVariants as item
use Rattle.policy_ast.specs.declared.policy.PlacedItem.{PlacedItem}
use Rattle.policy_meaning.specs.declared.effect.Effect.{Effect}
use Rattle.policy_rules.specs.Heads.{command_fields}
use Rattle.policy_rules.specs.Shapes.{field_value_types, shapes_of}
use Rattle.policy_rules.specs.WellTyped.{items_of}

-- The values are of these types, one by one.
abbrev pub are_of : Shapes → List Value → List Ty → Bool
are_of shapes values types = hold_in_order (map (has_type shapes) values) types

-- The values are of the types of the fields.
abbrev pub are_fields_of : List Item → List Value → List Field → Bool
are_fields_of items values fields = are_of (shapes_of items) values (field_value_types items fields)

-- The row is one of this item, a fact: its keys and values have the declared types.
abbrev pub is_row_of : List Item → Row → Item → Bool
is_row_of items row (item.Fact is_immutable name keys values) = are_fields_of items row.keys keys && are_fields_of items row.values values
is_row_of items row other = false

-- The item is a command, and these are values of its fields.
abbrev pub is_command_of : List Item → List Value → Item → Bool
is_command_of items fields (item.Command name sections) = are_fields_of items fields (command_fields sections)
is_command_of items fields other = false

-- The item is an effect, and these are values of its fields.
abbrev pub is_effect_of : List Item → List Value → Item → Bool
is_effect_of items fields (item.Effect name declared) = are_fields_of items fields (map (λ f. f.field) declared)
is_effect_of items fields other = false

-- The item is an action, and these are values of its parameters.
abbrev pub is_action_of : List Item → List Value → Item → Bool
is_action_of items arguments (item.Action name parameters body) = are_fields_of items arguments parameters
is_action_of items arguments other = false

-- The item of this number passes the test.
abbrev pub holds_at : List Item → ℕ → (Item → Bool) → Bool
holds_at items number test = unwrap_or (option_map test (slice_get items number)) false

abbrev pub is_typed_row : List Item → Row → Bool
is_typed_row items row = holds_at items row.fact (is_row_of items row)

-- Each row's number is that of a fact, and its keys and values have the declared types.
unfoldable pub AreTyped : List PlacedItem → List Row → Type 0
AreTyped policy rows = IsTrue (list_all (is_typed_row (items_of policy)) rows)

-- The number is that of a command, and its fields have the declared types.
unfoldable pub IsCommandOf : List PlacedItem → ℕ → List Value → Type 0
IsCommandOf policy command fields = IsTrue (holds_at (items_of policy) command (is_command_of (items_of policy) fields))

-- The number is that of an action, and its arguments have the declared types.
unfoldable pub IsActionOf : List PlacedItem → ℕ → List Value → Type 0
IsActionOf policy action arguments = IsTrue (holds_at (items_of policy) action (is_action_of (items_of policy) arguments))

-- Each effect's number is that of an effect, and its fields have the declared types.
unfoldable pub AreEffectsOf : List PlacedItem → List Effect → Type 0
AreEffectsOf policy effects = IsTrue (list_all (λ e. holds_at (items_of policy) e.effect (is_effect_of (items_of policy) e.fields)) effects)
