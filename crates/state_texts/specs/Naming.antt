-- Values with the names of a policy's items in place of their numbers, as a script writes them.
use Rattle.std.specs.Prelude.{ℕ, List, [], map, zip, slice_get, Option, Some, option_map, option_and_then, unwrap_or}
use Rattle.base_bytes.specs.declared.arg.Arg.{Arg}
use Rattle.base_bytes.specs.declared.arg.Arg.TheVariants as arg
use Rattle.base_bytes.specs.declared.value.Value.{Value, fold-Value}
use Rattle.base_bytes.specs.declared.value.Value.TheOpen.{Value-F}
use Rattle.policy_ast.specs.declared.field.Field.{Field}
use Rattle.policy_ast.specs.declared.item.Item.{Item}
use Rattle.policy_ast.specs.declared.item.Item.TheVariants as item
use Rattle.policy_meaning.specs.Values.{field_names}
use Rattle.policy_rules.specs.Heads.{variants}
use Rattle.policy_rules.specs.Names.{Name, name_of}

-- The name of the item of a number. A number that is no item's has none; in a value of a well-typed policy no such number stands.
abbrev pub item_name : List Item → ℕ → Name
item_name items number = unwrap_or (option_and_then name_of (slice_get items number)) []

-- The name of a variant by its ordinal.
abbrev pub variant_name : List Item → ℕ → ℕ → Name
variant_name items number ordinal = unwrap_or (option_and_then (λ all. slice_get all ordinal) (option_and_then variants (slice_get items number))) []

-- The names of the fields of the item of a number.
abbrev pub fields_at : List Item → ℕ → List Name
fields_at items number = unwrap_or (option_map field_names (slice_get items number)) []

-- One layer, where each value inside is named.
abbrev pub named_layer : List Item → Value-F Arg → Arg
named_layer items (Value-F.Int n) = arg.Int n
named_layer items (Value-F.Bool b) = arg.Bool b
named_layer items (Value-F.Str text) = arg.Str text
named_layer items (Value-F.Raw bytes) = arg.Raw bytes
named_layer items (Value-F.Ident id) = arg.Ident id
named_layer items (Value-F.Enum number ordinal) = arg.Variant (item_name items number) (variant_name items number ordinal)
named_layer items (Value-F.Struct number fields) = arg.Fields (item_name items number) (zip (fields_at items number) fields)
named_layer items Value-F.Nothing = arg.Nothing
named_layer items (Value-F.Some inner) = arg.Some inner

-- A value, with names.
abbrev pub named : List Item → Value → Arg
named items = fold-Value Arg (named_layer items)

-- Values, each with the name at its place.
abbrev pub named_values : List Item → List Name → List Value → List (Name × Arg)
named_values items names values = zip names (map (named items) values)

abbrev pub names_in : List Field → List Name
names_in fields = map (λ f. f.name) fields

-- The names of a fact's keys and of its values.
abbrev pub key_names : Option Item → List Name
key_names (Some (item.Fact is_immutable name keys values)) = names_in keys
key_names other = []

abbrev pub value_names : Option Item → List Name
value_names (Some (item.Fact is_immutable name keys values)) = names_in values
value_names other = []
