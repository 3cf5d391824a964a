-- What the rest of a policy knows of an item: its fields, variants, parameters and result, and what a literal's type is.
use Rattle.std.specs.Prelude.{Bool, true, false, if◌then◌else◌, List, [], ◌∷◌, ◌++◌, map, Option, Some, None, option_map, option_and_then}
use Rattle.std.specs.Option.{is_some}
use Rattle.base_bytes.specs.Values.{fits_int, fits_text}
use Rattle.policy_ast.specs.declared.field.Field.{Field}
use Rattle.policy_ast.specs.declared.field.FieldType.{FieldType, fold-FieldType}
use Rattle.policy_ast.specs.declared.field.FieldType.TheOpen.{FieldType-F}
use Rattle.policy_ast.specs.declared.item.Item.{Item}
use Rattle.policy_ast.specs.declared.item.Item.TheVariants as item
use Rattle.policy_ast.specs.declared.item.Section.{Section}
use Rattle.policy_ast.specs.declared.item.Section.TheVariants as section
use Rattle.policy_ast.specs.declared.literal.Literal.{Literal}
use Rattle.policy_ast.specs.declared.literal.Literal.TheVariants as literal
use Rattle.policy_rules.specs.Names.{Name, is_among, item_named}
use Rattle.policy_rules.specs.Types.{declared, written_type}
use Rattle.policy_rules.specs.declared.types.Named.{Named}
use Rattle.policy_rules.specs.declared.types.NamedType.{NamedType}
use Rattle.policy_rules.specs.declared.types.NamedType.TheVariants as ty

-- The fields of a command: those of its first section of fields.
abbrev pub command_fields : List Section → List Field
command_fields [] = []
command_fields (section.Fields fields ∷ sections) = fields
command_fields (other ∷ sections) = command_fields sections

-- The fields of an item that is a struct type. A fact is one, with its keys and then its values; an effect and a command are too.
abbrev pub written_fields : Item → Option (List Field)
written_fields (item.Struct name fields) = Some fields
written_fields (item.Effect name fields) = Some (map (λ f. f.field) fields)
written_fields (item.Fact is_immutable name keys values) = Some (keys ++ values)
written_fields (item.Command name sections) = Some (command_fields sections)
written_fields other = None

-- The variants of an enum.
abbrev pub variants : Item → Option (List Name)
variants (item.Enum name all) = Some all
variants other = None

-- A fact's mark, keys and values.
pub record FactHead : Type 0 where
  pub is_immutable : Bool
  pub keys : List Named
  pub values : List Named

-- What is known of a fact.
abbrev pub fact_head : Item → Option FactHead
fact_head (item.Fact is_immutable name keys values) = Some (record { is_immutable = is_immutable; keys = declared keys; values = declared values })
fact_head other = None

-- A function's parameters and the type of its result.
pub record FunctionHead : Type 0 where
  pub parameters : List Named
  pub result : NamedType

-- What is known of a function.
abbrev pub function_head : Item → Option FunctionHead
function_head (item.Function name parameters result body) = Some (record { parameters = declared parameters; result = written_type result })
function_head other = None

-- The parameters of a finish function.
abbrev pub finish_parameters : Item → Option (List Named)
finish_parameters (item.FinishFunction name parameters body) = Some (declared parameters)
finish_parameters other = None

-- The item is a command.
abbrev pub is_command : Item → Bool
is_command (item.Command name sections) = true
is_command other = false

-- The item is an effect.
abbrev pub is_effect : Item → Bool
is_effect (item.Effect name fields) = true
is_effect other = false

-- ---- by name, among the items of a policy

-- The fields of the struct that a name means.
abbrev pub struct_named : List Item → Name → Option (List Named)
struct_named items name = option_and_then (λ i. option_map declared (written_fields i)) (item_named items name)

-- The variants of the enum that a name means.
abbrev pub enum_named : List Item → Name → Option (List Name)
enum_named items name = option_and_then variants (item_named items name)

-- The fact that a name means.
abbrev pub fact_named : List Item → Name → Option FactHead
fact_named items name = option_and_then fact_head (item_named items name)

-- The function that a name means.
abbrev pub function_named : List Item → Name → Option FunctionHead
function_named items name = option_and_then function_head (item_named items name)

-- The parameters of the finish function that a name means.
abbrev pub finish_function_named : List Item → Name → Option (List Named)
finish_function_named items name = option_and_then finish_parameters (item_named items name)

-- The name means an item that passes a test.
abbrev pub names_item : (Item → Bool) → List Item → Name → Bool
names_item test items name = is_some (option_and_then (λ i. if test i then Some i else None) (item_named items name))

-- ---- types

-- The written type names nothing that isn't there.
abbrev pub exists_layer : List Item → FieldType-F Bool → Bool
exists_layer items (FieldType-F.Enum name) = is_some (enum_named items name)
exists_layer items (FieldType-F.Struct name) = is_some (struct_named items name)
exists_layer items (FieldType-F.Optional inner) = inner
exists_layer items other = true

-- Each enum and each struct that a written type names is there.
abbrev pub type_exists : List Item → FieldType → Bool
type_exists items = fold-FieldType Bool (exists_layer items)

-- The type of a literal. A number is of 64 bits, a text has fewer than 2^32 bytes, and `E::V` names a variant of the enum E.
abbrev pub literal_type : List Item → Literal → Option NamedType
literal_type items (literal.Number n) = if fits_int n then Some ty.Int else None
literal_type items (literal.Text text) = if fits_text text then Some ty.Str else None
literal_type items literal.True = Some ty.Bool
literal_type items literal.False = Some ty.Bool
literal_type items (literal.Variant name variant) = option_and_then (λ all. if is_among variant all then Some (ty.Enum name) else None) (enum_named items name)

-- The type of what an item defines as a name for a value: the literal's.
abbrev pub let_type : List Item → Item → Option NamedType
let_type items (item.Let name value) = literal_type items value
let_type items other = None

-- The type of a policy's `let` of this name.
abbrev pub let_named : List Item → Name → Option NamedType
let_named items name = option_and_then (let_type items) (item_named items name)
