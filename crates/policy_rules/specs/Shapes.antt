-- The shapes of a policy's items, which the types of values go by.
use Rattle.std.specs.Prelude.{ℕ, List, map, length, Option, Some, None, option_and_then, option_map, unwrap_or}
use Rattle.base_bytes.specs.declared.shapes.Shape.{Shape}
use Rattle.base_bytes.specs.declared.shapes.Shape.TheVariants as shape
use Rattle.base_bytes.specs.declared.shapes.Shapes.{Shapes}
use Rattle.base_bytes.specs.declared.ty.Ty.{Ty}
use Rattle.base_bytes.specs.declared.ty.Ty.TheVariants as value_type
use Rattle.policy_ast.specs.declared.field.Field.{Field}
use Rattle.policy_ast.specs.declared.item.Item.{Item}
use Rattle.policy_ast.specs.declared.item.Item.TheVariants as item
use Rattle.policy_rules.specs.Heads.{enum_named, struct_named, written_fields}
use Rattle.policy_rules.specs.Names.{number_named}
use Rattle.policy_rules.specs.Types.{written_type}
use Rattle.policy_rules.specs.declared.types.NamedType.{NamedType, fold-NamedType}
use Rattle.policy_rules.specs.declared.types.NamedType.TheOpen.{NamedType-F}

-- The type with the number of the item that a name means, and Never where the name means nothing of that kind.
abbrev pub numbered : {A : Type 0} → (ℕ → Ty) → Option A → Option ℕ → Ty
numbered make found number = unwrap_or (option_and_then (λ it. option_map make number) found) value_type.Never

-- One layer of a type, where the type inside an optional is given as a type of values.
abbrev pub value_type_layer : List Item → NamedType-F Ty → Ty
value_type_layer items NamedType-F.Int = value_type.Int
value_type_layer items NamedType-F.Bool = value_type.Bool
value_type_layer items NamedType-F.Str = value_type.Str
value_type_layer items NamedType-F.Raw = value_type.Raw
value_type_layer items NamedType-F.Ident = value_type.Ident
value_type_layer items (NamedType-F.Enum name) = numbered value_type.Enum (enum_named items name) (number_named items name)
value_type_layer items (NamedType-F.Struct name) = numbered value_type.Struct (struct_named items name) (number_named items name)
value_type_layer items (NamedType-F.Optional inner) = value_type.Optional inner
value_type_layer items NamedType-F.Never = value_type.Never

-- The type of the values of a type: its names are now item numbers.
abbrev pub value_type_of : List Item → NamedType → Ty
value_type_of items = fold-NamedType Ty (value_type_layer items)

-- The types of fields, for values.
abbrev pub field_value_types : List Item → List Field → List Ty
field_value_types items fields = map (λ f. value_type_of items (written_type f.field_type)) fields

-- The shape of a struct with these fields, if it is one.
abbrev pub fields_shape : List Item → Option (List Field) → Shape
fields_shape items (Some fields) = shape.Fields (field_value_types items fields)
fields_shape items None = shape.Neither

-- The shape of an item.
abbrev pub shape_of : List Item → Item → Shape
shape_of items (item.Enum name variants) = shape.Variants (length variants)
shape_of items other = fields_shape items (written_fields other)

-- One shape for each item, in their order.
abbrev pub shapes_of : List Item → Shapes
shapes_of items = record { items = map (shape_of items) items }
