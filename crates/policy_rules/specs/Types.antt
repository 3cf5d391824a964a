-- Types as the rules speak of them, and which fits which.
use Rattle.std.specs.Prelude.{Bool, true, false, if◌then◌else◌, List, map, Option, Some, None}
use Rattle.std.specs.Str.{bytes_eq}
use Rattle.policy_ast.specs.declared.field.Field.{Field}
use Rattle.policy_ast.specs.declared.field.FieldType.{FieldType, fold-FieldType}
use Rattle.policy_ast.specs.declared.field.FieldType.TheOpen.{FieldType-F}
use Rattle.policy_rules.specs.declared.types.Named.{Named}
use Rattle.policy_rules.specs.declared.types.NamedType.{NamedType, fold-NamedType, out-NamedType}
use Rattle.policy_rules.specs.declared.types.NamedType.TheOpen.{NamedType-F}
use Rattle.policy_rules.specs.declared.types.NamedType.TheVariants as ty

-- One layer of a written type, where the type inside `optional` is given as a type.
abbrev pub written_layer : FieldType-F NamedType → NamedType
written_layer FieldType-F.Int = ty.Int
written_layer FieldType-F.Bool = ty.Bool
written_layer FieldType-F.Str = ty.Str
written_layer FieldType-F.Raw = ty.Raw
written_layer FieldType-F.Ident = ty.Ident
written_layer (FieldType-F.Enum name) = ty.Enum name
written_layer (FieldType-F.Struct name) = ty.Struct name
written_layer (FieldType-F.Optional inner) = ty.Optional inner

-- The type that is written.
abbrev pub written_type : FieldType → NamedType
written_type = fold-FieldType NamedType written_layer

-- Fields or parameters with their types.
abbrev pub declared : List Field → List Named
declared fields = map (λ f. record { name = f.name; ty = written_type f.field_type }) fields

-- One layer of a type fits another: they are equal, the first is Never, or both are optional and the inner ones fit.
abbrev pub fits_layer : NamedType-F (NamedType → Bool) → NamedType-F NamedType → Bool
fits_layer NamedType-F.Int NamedType-F.Int = true
fits_layer NamedType-F.Bool NamedType-F.Bool = true
fits_layer NamedType-F.Str NamedType-F.Str = true
fits_layer NamedType-F.Raw NamedType-F.Raw = true
fits_layer NamedType-F.Ident NamedType-F.Ident = true
fits_layer (NamedType-F.Enum name) (NamedType-F.Enum other) = bytes_eq name other
fits_layer (NamedType-F.Struct name) (NamedType-F.Struct other) = bytes_eq name other
fits_layer (NamedType-F.Optional fits_inner) (NamedType-F.Optional inner) = fits_inner inner
fits_layer NamedType-F.Never other = true
fits_layer _ _ = false

-- A value of the first type may stand where the second is asked for.
abbrev pub fits : NamedType → NamedType → Bool
fits = fold-NamedType (NamedType → Bool) (λ layer other. fits_layer layer (out-NamedType other))

-- Of two types one fits the other: that other.
abbrev pub joined : NamedType → NamedType → Option NamedType
joined t u = if fits t u then Some u else if fits u t then Some t else None
