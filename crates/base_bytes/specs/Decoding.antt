-- How a value of a type is read of its bytes. What a payload is stands in Payload; here its spelling is taken apart again.
use Rattle.std.specs.Prelude.{ℕ, zero, suc, List, map, Some, None}
use Rattle.std.specs.Int.{w8, w16, w32, w64, cast_signed}
use Rattle.std.specs.Str.{is_utf8}
use Rattle.base_bytes.specs.Reading.{Reading, bytes_at, counted_at, flag_at, followed, in_order, made, number_at, passing}
use Rattle.base_bytes.specs.Values.{is_variant, shape_at}
use Rattle.base_bytes.specs.declared.shapes.Shape.{Shape}
use Rattle.base_bytes.specs.declared.shapes.Shape.TheVariants as shape
use Rattle.base_bytes.specs.declared.shapes.Shapes.{Shapes}
use Rattle.base_bytes.specs.declared.ty.Ty.{Ty, fold-Ty}
use Rattle.base_bytes.specs.declared.ty.Ty.TheOpen.{Ty-F}
use Rattle.base_bytes.specs.declared.value.Value.{Value}
use Rattle.base_bytes.specs.declared.value.Value.TheVariants as value

abbrev pub int_at : Reading Value
int_at = made value.Int (made (cast_signed w64) (number_at w64))

abbrev pub bool_at : Reading Value
bool_at = made value.Bool flag_at

abbrev pub text_at : Reading Value
text_at = made value.Str (passing is_utf8 (counted_at w32))

abbrev pub raw_at : Reading Value
raw_at = made value.Raw (counted_at w32)

abbrev pub id_at : Reading Value
id_at = made value.Ident (bytes_at 32)

abbrev pub variant_at : Shapes → ℕ → Reading Value
variant_at shapes item = made (value.Enum item) (passing (λ ordinal. is_variant ordinal (shape_at shapes item)) (number_at w16))

-- Behind the first byte of an optional.
abbrev pub inner_at : Reading Value → ℕ → Reading Value
inner_at read zero bytes = Some (value.Nothing, bytes)
inner_at read (suc zero) bytes = made value.Some read bytes
inner_at read (suc (suc byte)) bytes = None

abbrev pub optional_at : Reading Value → Reading Value
optional_at read = followed (number_at w8) (inner_at read)

-- One layer of a type, where each type inside is given by its reading, and each struct by its number.
abbrev pub layer_at : Shapes → (ℕ → Reading Value) → Ty-F (Reading Value) → Reading Value
layer_at shapes below Ty-F.Int = int_at
layer_at shapes below Ty-F.Bool = bool_at
layer_at shapes below Ty-F.Str = text_at
layer_at shapes below Ty-F.Raw = raw_at
layer_at shapes below Ty-F.Ident = id_at
layer_at shapes below (Ty-F.Enum item) = variant_at shapes item
layer_at shapes below (Ty-F.Struct item) = below item
layer_at shapes below (Ty-F.Optional read) = optional_at read
layer_at shapes below Ty-F.Never = λ bytes. None

abbrev pub value_by : Shapes → (ℕ → Reading Value) → Ty → Reading Value
value_by shapes below = fold-Ty (Reading Value) (layer_at shapes below)

abbrev pub fields_by : (Ty → Reading Value) → Shape → Reading (List Value)
fields_by read (shape.Fields types) = in_order (map read types)
fields_by read _ = λ bytes. None

-- A struct in which at most so many structs nest, itself counted.
abbrev pub struct_at : Shapes → ℕ → ℕ → Reading Value
struct_at shapes zero item bytes = None
struct_at shapes (suc depth) item bytes = made (value.Struct item) (fields_by (value_by shapes (struct_at shapes depth)) (shape_at shapes item)) bytes

-- A value of a type in which at most so many structs nest.
abbrev pub value_at : Shapes → ℕ → Ty → Reading Value
value_at shapes depth = value_by shapes (struct_at shapes depth)

-- The values of types in order.
abbrev pub values_at : Shapes → ℕ → List Ty → Reading (List Value)
values_at shapes depth types = in_order (map (value_at shapes depth) types)
