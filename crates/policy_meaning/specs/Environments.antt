-- The values of names, and what else an expression can ask for where it stands.
use Rattle.std.specs.Prelude.{ℕ, true, false, ◌&&◌, if◌then◌else◌, List, [], ◌∷◌, ◌++◌, codes, position, Option, Some, None, option_map, option_and_then}
use Rattle.std.specs.Option.{option_or}
use Rattle.std.specs.Str.{bytes_eq}
use Rattle.base_bytes.specs.declared.value.Value.{Value}
use Rattle.base_bytes.specs.declared.value.Value.TheVariants as value
use Rattle.policy_ast.specs.declared.item.Item.{Item}
use Rattle.policy_ast.specs.declared.item.Item.TheVariants as item
use Rattle.policy_ast.specs.declared.literal.Literal.{Literal}
use Rattle.policy_ast.specs.declared.literal.Literal.TheVariants as literal
use Rattle.policy_rules.specs.Heads.{enum_named}
use Rattle.policy_rules.specs.Names.{Name, item_named, number_named}
use Rattle.policy_rules.specs.Scopes.{names_in}
use Rattle.policy_rules.specs.declared.types.Named.{Named}

-- A name and its value.
pub record Bound : Type 0 where
  pub name : Name
  pub value : Value

-- The names that parameters, `let` and `map` have introduced, in that order.
abbrev pub Env : Type 0
Env = List Bound

abbrev pub value_in : Env → Name → Option Value
value_in [] name = None
value_in (b ∷ env) name = if bytes_eq name b.name then Some b.value else value_in env name

abbrev pub with_value : Env → Name → Value → Env
with_value env name v = env ++ record { name = name; value = v } ∷ []

-- Names with their values, one by one.
abbrev pub bound : List Name → List Value → Env
bound [] values = []
bound (name ∷ names) [] = []
bound (name ∷ names) (v ∷ values) = record { name = name; value = v } ∷ bound names values

-- Parameters with the values of arguments.
abbrev pub bound_parameters : List Named → List Value → Env
bound_parameters parameters = bound (names_in parameters)

-- The value of an enum's variant: the number of the enum's item, and the variant's ordinal.
abbrev pub variant_value : List Item → Name → Name → Option Value
variant_value items name variant =
    option_and_then (λ number. option_and_then (λ all. option_map (value.Enum number) (position (bytes_eq variant) all)) (enum_named items name)) (number_named items name)

-- The value that a literal writes.
abbrev pub literal_value : List Item → Literal → Option Value
literal_value items (literal.Number n) = Some (value.Int n)
literal_value items (literal.Text text) = Some (value.Str text)
literal_value items literal.True = Some (value.Bool true)
literal_value items literal.False = Some (value.Bool false)
literal_value items (literal.Variant name variant) = variant_value items name variant

-- The value of what an item defines as a name for a value.
abbrev pub let_value : List Item → Item → Option Value
let_value items (item.Let name l) = literal_value items l
let_value items other = None

-- The value of a name that stands as an expression: a name in scope, or a policy's `let`.
abbrev pub name_value : List Item → Env → Name → Option Value
name_value items env name = option_or (value_in env name) (option_and_then (let_value items) (item_named items name))

-- What a block knows beside its names: in policy and recall blocks the command, its author and its id, in actions the device.
pub record Setting : Type 0 where
  pub this : Option Value
  pub author : Option (List ℕ)
  pub command_id : Option (List ℕ)
  pub device : Option (List ℕ)

-- In functions, nothing.
abbrev pub no_setting : Setting
no_setting = record { this = None; author = None; command_id = None; device = None }

-- `envelope::author_id`, `envelope::command_id` and `device::current_device_id`.
abbrev pub foreign_value : Setting → Name → Name → Option Value
foreign_value setting of called =
    if bytes_eq of (codes "envelope") && bytes_eq called (codes "author_id") then option_map value.Ident setting.author
    else if bytes_eq of (codes "envelope") && bytes_eq called (codes "command_id") then option_map value.Ident setting.command_id
    else if bytes_eq of (codes "device") && bytes_eq called (codes "current_device_id") then option_map value.Ident setting.device
    else None
