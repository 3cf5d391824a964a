-- The type of the values of a written type, form by form.
use Rattle.std.proofs.Common.{◌≡◌, List, ap, ◌∙◌}
use Rattle.base_bytes.specs.declared.ty.Ty.{Ty}
use Rattle.base_bytes.specs.declared.ty.Ty.TheVariants as value_type
use Rattle.policy_ast.specs.declared.field.FieldType.{FieldType, out-FieldType, map-FieldType, fold_out-FieldType}
use Rattle.policy_ast.specs.declared.field.FieldType.TheOpen.{FieldType-F}
use Rattle.policy_ast.specs.declared.item.Item.{Item}
use Rattle.policy_rules.specs.Heads.{enum_named, struct_named}
use Rattle.policy_rules.specs.Names.{number_named}
use Rattle.policy_rules.specs.Shapes.{numbered, value_type_layer, value_type_of}
use Rattle.policy_rules.specs.Types.{written_layer, written_type}
use Rattle.policy_rules.specs.declared.types.NamedType.{NamedType, out-NamedType, map-NamedType, fold_out-NamedType}
use Rattle.policy_rules.specs.declared.types.NamedType.TheOpen.{NamedType-F}
use Rattle.policy_rules.specs.declared.types.NamedType.TheVariants as ty

module _ (items : List Item) where
  abbrev pub of_form : FieldType-F FieldType → Ty
  of_form FieldType-F.Int = value_type.Int
  of_form FieldType-F.Bool = value_type.Bool
  of_form FieldType-F.Str = value_type.Str
  of_form FieldType-F.Raw = value_type.Raw
  of_form FieldType-F.Ident = value_type.Ident
  of_form (FieldType-F.Enum name) = numbered value_type.Enum (enum_named items name) (number_named items name)
  of_form (FieldType-F.Struct name) = numbered value_type.Struct (struct_named items name) (number_named items name)
  of_form (FieldType-F.Optional inner) = value_type.Optional (value_type_of items (written_type inner))

  at_layer : (t : NamedType) (layer : NamedType-F NamedType) → out-NamedType t ≡ layer
      → value_type_of items t ≡ value_type_layer items (map-NamedType NamedType Ty (value_type_of items) layer)
  at_layer t layer is = fold_out-NamedType Ty (value_type_layer items) t ∙ ap (λ l. value_type_layer items (map-NamedType NamedType Ty (value_type_of items) l)) is

  by_form : (form : FieldType-F FieldType) → value_type_of items (written_layer (map-FieldType FieldType NamedType written_type form)) ≡ of_form form
  by_form FieldType-F.Int = at_layer ty.Int NamedType-F.Int ty.outs-Int
  by_form FieldType-F.Bool = at_layer ty.Bool NamedType-F.Bool ty.outs-Bool
  by_form FieldType-F.Str = at_layer ty.Str NamedType-F.Str ty.outs-Str
  by_form FieldType-F.Raw = at_layer ty.Raw NamedType-F.Raw ty.outs-Raw
  by_form FieldType-F.Ident = at_layer ty.Ident NamedType-F.Ident ty.outs-Ident
  by_form (FieldType-F.Enum name) = at_layer (ty.Enum name) (NamedType-F.Enum name) (ty.outs-Enum name)
  by_form (FieldType-F.Struct name) = at_layer (ty.Struct name) (NamedType-F.Struct name) (ty.outs-Struct name)
  by_form (FieldType-F.Optional inner) = at_layer (ty.Optional (written_type inner)) (NamedType-F.Optional (written_type inner)) (ty.outs-Optional (written_type inner))

  pub typed_by_form : (t : FieldType) (form : FieldType-F FieldType) → out-FieldType t ≡ form → value_type_of items (written_type t) ≡ of_form form
  typed_by_form t form is =
      ap (value_type_of items) (fold_out-FieldType NamedType written_layer t ∙ ap (λ l. written_layer (map-FieldType FieldType NamedType written_type l)) is) ∙ by_form form
