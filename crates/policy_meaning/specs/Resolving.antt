-- The value that an argument of a script writes, at the type of a parameter.
use Rattle.std.specs.Prelude.{ℕ, Bool, false, ◌&&◌, ◌==◌, if◌then◌else◌, List, [], ◌∷◌, map, Option, Some, None, option_map, option_and_then, unwrap_or}
use Rattle.std.specs.List.{list_all}
use Rattle.std.specs.Str.{bytes_eq}
use Rattle.base_bytes.specs.Values.{fits_bytes, fits_id, fits_int, fits_text}
use Rattle.base_bytes.specs.declared.arg.Arg.{Arg, fold-Arg}
use Rattle.base_bytes.specs.declared.arg.Arg.TheOpen.{Arg-F}
use Rattle.base_bytes.specs.declared.ty.Ty.{Ty, out-Ty}
use Rattle.base_bytes.specs.declared.ty.Ty.TheOpen.{Ty-F}
use Rattle.base_bytes.specs.declared.value.Value.{Value}
use Rattle.base_bytes.specs.declared.value.Value.TheVariants as value
use Rattle.policy_ast.specs.declared.item.Item.{Item}
use Rattle.policy_meaning.specs.Environments.{variant_value}
use Rattle.policy_rules.specs.FieldLists.{are_distinct}
use Rattle.policy_rules.specs.Heads.{struct_named}
use Rattle.policy_rules.specs.Names.{Name, is_among, number_named}
use Rattle.policy_rules.specs.Scopes.{names_in}
use Rattle.policy_rules.specs.Shapes.{value_type_of}
use Rattle.policy_rules.specs.declared.types.Named.{Named}

-- What an argument is at each type: its value, or none where it isn't of that type.
abbrev pub Resolving : Type 0
Resolving = Ty → Option Value

-- A value that passes a test.
abbrev pub only : Bool → Value → Option Value
only test v = if test then Some v else None

-- The names are those of the fields, each once, in any order.
abbrev pub name_each_once : List Name → List Name → Bool
name_each_once fields names = are_distinct names && list_all (λ name. is_among name fields) names && list_all (λ field. is_among field names) fields

-- The argument that is given for a field.
abbrev pub given_for : Name → List (Name × Resolving) → Option Resolving
given_for name [] = None
given_for name (g ∷ given) = if bytes_eq name g.0 then Some g.1 else given_for name given

-- The values of the fields in declared order, each of its field's type.
abbrev pub resolved_fields : List Item → List Named → List (Name × Resolving) → Option (List Value)
resolved_fields items [] given = Some []
resolved_fields items (field ∷ fields) given =
    option_and_then
    (λ v. option_map (λ values. v ∷ values) (resolved_fields items fields given))
    (option_and_then (λ resolve. resolve (value_type_of items field.ty)) (given_for field.name given))

-- A struct that names each field once, of the struct that its own name means.
abbrev pub resolved_struct : List Item → ℕ → Name → List (Name × Resolving) → Option Value
resolved_struct items number name given = option_and_then
    (λ declared. if name_each_once (names_in declared) (map (λ g. g.0) given) then option_map (value.Struct number) (resolved_fields items declared given) else None)
    (struct_named items name)

-- The item that a name means has this number.
abbrev pub means : List Item → Name → ℕ → Bool
means items name number = unwrap_or (option_map (λ n. n == number) (number_named items name)) false

-- One layer of an argument at one layer of a type: a number to int, a text to string, and so on; a variant to its enum, a struct to the struct of its
-- own name, `None` and `Some` to an optional.
abbrev pub resolved_layer : List Item → Arg-F Resolving → Ty-F Ty → Option Value
resolved_layer items (Arg-F.Int n) Ty-F.Int = only (fits_int n) (value.Int n)
resolved_layer items (Arg-F.Bool b) Ty-F.Bool = Some (value.Bool b)
resolved_layer items (Arg-F.Str text) Ty-F.Str = only (fits_text text) (value.Str text)
resolved_layer items (Arg-F.Raw bytes) Ty-F.Raw = only (fits_bytes bytes) (value.Raw bytes)
resolved_layer items (Arg-F.Ident id) Ty-F.Ident = only (fits_id id) (value.Ident id)
resolved_layer items (Arg-F.Variant name variant) (Ty-F.Enum number) = if means items name number then variant_value items name variant else None
resolved_layer items (Arg-F.Fields name given) (Ty-F.Struct number) = if means items name number then resolved_struct items number name given else None
resolved_layer items Arg-F.Nothing (Ty-F.Optional inner) = Some value.Nothing
resolved_layer items (Arg-F.Some resolve) (Ty-F.Optional inner) = option_map value.Some (resolve inner)
resolved_layer items _ _ = None

-- The value that an argument writes at a type, and none where it is no value of that type.
abbrev pub resolved : List Item → Arg → Ty → Option Value
resolved items = fold-Arg Resolving (λ layer t. resolved_layer items layer (out-Ty t))
