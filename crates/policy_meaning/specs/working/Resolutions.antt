-- How an argument is resolved by numbers: the item of a type's number is looked at in place of the item that a name means. This serves the contracts
-- of the parts of `resolve` alone: what an argument writes stands in Resolving.
use Rattle.std.specs.Prelude.{ℕ, if◌then◌else◌, List, [], ◌∷◌, map, slice_get, Option, Some, None, option_map, option_and_then, unwrap_or}
use Rattle.base_bytes.specs.declared.arg.Arg.{Arg}
use Rattle.base_bytes.specs.declared.shapes.Shape.{Shape}
use Rattle.base_bytes.specs.declared.shapes.Shape.TheVariants as shape
use Rattle.base_bytes.specs.declared.shapes.Shapes.{Shapes}
use Rattle.base_bytes.specs.declared.ty.Ty.{Ty}
use Rattle.base_bytes.specs.declared.ty.Ty.TheOpen.{Ty-F}
use Rattle.base_bytes.specs.declared.value.Value.{Value}
use Rattle.policy_ast.specs.declared.item.Item.{Item}
use Rattle.policy_meaning.specs.Resolving.{Resolving, given_for, means, name_each_once, resolved}
use Rattle.policy_meaning.specs.Values.{field_names}
use Rattle.policy_rules.specs.Names.{Name}
use Rattle.policy_rules.specs.Shapes.{field_value_types}
use Rattle.policy_rules.specs.Heads.{written_fields}

-- What an argument is at each type.
unfoldable pub resolving : List Item → Arg → Resolving
resolving items a = resolved items a

-- The fields that an argument gives, each with what it is at each type.
abbrev pub given_of : List Item → List (Name × Arg) → List (Name × Resolving)
given_of items given = map (λ g. (g.0, resolving items g.1)) given

-- The names of the fields that are given.
abbrev pub given_names : List (Name × Arg) → List Name
given_names given = map (λ g. g.0) given

-- The item of this number, where it is the one that the name means.
abbrev pub item_at : List Item → ℕ → Name → Option Item
item_at items number name = if means items name number then slice_get items number else None

-- The names of the fields of the item of this number.
abbrev pub names_at : List Item → ℕ → List Name
names_at items number = unwrap_or (option_map field_names (slice_get items number)) []

-- The types of the fields of an item that is a struct type.
abbrev pub types_of : List Item → Item → Option (List Ty)
types_of items i = option_map (field_value_types items) (written_fields i)

-- The types of the fields of the item of this number, where the name means it, it is a struct type, and each of its fields is given once.
abbrev pub types_for : List Item → ℕ → Name → List (Name × Arg) → Option (List Ty)
types_for items number name given =
    option_and_then (λ i. if name_each_once (field_names i) (given_names given) then types_of items i else None) (item_at items number name)

-- The values of fields of these names and types, in this order.
abbrev pub values_for : List Name → List Ty → List (Name × Resolving) → Option (List Value)
values_for names [] given = Some []
values_for [] (t ∷ types) given = None
values_for (name ∷ names) (t ∷ types) given =
    option_and_then (λ v. option_map (λ values. v ∷ values) (values_for names types given)) (option_and_then (λ resolve. resolve t) (given_for name given))

-- The types of fields, where the shape is that of a struct.
abbrev pub field_types : Shape → Option (List Ty)
field_types (shape.Fields types) = Some types
field_types other = None

-- The types of the fields of the item of this number, where it is a struct type.
abbrev pub types_at : Shapes → ℕ → Option (List Ty)
types_at shapes number = option_and_then field_types (slice_get shapes.items number)

-- The number of the enum that a type is.
abbrev pub enum_number : Ty-F Ty → Option ℕ
enum_number (Ty-F.Enum number) = Some number
enum_number other = None

-- The number of the struct that a type is.
abbrev pub struct_number : Ty-F Ty → Option ℕ
struct_number (Ty-F.Struct number) = Some number
struct_number other = None

-- The type inside an optional.
abbrev pub inner_type : Ty-F Ty → Option Ty
inner_type (Ty-F.Optional inner) = Some inner
inner_type other = None
