-- Which values are of a type. What no value of the program can be is of no type: a number that does not fit, a text that is no UTF-8, an id of another length.
use Rattle.std.specs.Prelude.{ℕ, ◌^◌, ℤ, pos, negsuc, Bool, true, false, ◌&&◌, ◌==◌, nat_lt, List, [], ◌∷◌, length, slice_get}
use Rattle.std.specs.List.{list_all}
use Rattle.std.specs.Option.{unwrap_or}
use Rattle.std.specs.Str.{is_utf8}
use Rattle.base_bytes.specs.declared.shapes.Shape.{Shape}
use Rattle.base_bytes.specs.declared.shapes.Shape.TheVariants as shape
use Rattle.base_bytes.specs.declared.shapes.Shapes.{Shapes}
use Rattle.base_bytes.specs.declared.ty.Ty.{Ty, out-Ty}
use Rattle.base_bytes.specs.declared.ty.Ty.TheOpen.{Ty-F}
use Rattle.base_bytes.specs.declared.value.Value.{Value, fold-Value}
use Rattle.base_bytes.specs.declared.value.Value.TheOpen.{Value-F}

-- From -2^63 to 2^63 - 1.
abbrev pub fits_int : ℤ → Bool
fits_int (pos n) = nat_lt n (2 ^ 63)
fits_int (negsuc n) = nat_lt n (2 ^ 63)

-- Bytes, fewer than 2^32 of them.
abbrev pub fits_bytes : List ℕ → Bool
fits_bytes bytes = list_all (λ b. nat_lt b 256) bytes && nat_lt (length bytes) (2 ^ 32)

-- UTF-8, in fewer than 2^32 bytes.
abbrev pub fits_text : List ℕ → Bool
fits_text bytes = is_utf8 bytes && nat_lt (length bytes) (2 ^ 32)

-- 32 bytes.
abbrev pub fits_id : List ℕ → Bool
fits_id bytes = list_all (λ b. nat_lt b 256) bytes && (length bytes == 32)

-- The shape of the item of this number; a number without an item has no shape of an enum or a struct.
abbrev pub shape_at : Shapes → ℕ → Shape
shape_at shapes item = unwrap_or (slice_get shapes.items item) shape.Neither

-- The ordinal is that of a variant of this shape.
abbrev pub is_variant : ℕ → Shape → Bool
is_variant ordinal (shape.Variants count) = nat_lt ordinal count && nat_lt ordinal (2 ^ 16)
is_variant ordinal _ = false

-- There are as many tests as types, and each holds of the type at its place.
abbrev pub hold_in_order : List (Ty → Bool) → List Ty → Bool
hold_in_order [] [] = true
hold_in_order (test ∷ tests) (ty ∷ types) = test ty && hold_in_order tests types
hold_in_order _ _ = false

-- The fields, each given by its test of a type, are those of this shape.
abbrev pub are_fields : List (Ty → Bool) → Shape → Bool
are_fields tests (shape.Fields types) = hold_in_order tests types
are_fields tests _ = false

-- One layer of a value is of one layer of a type, where each value inside is given by its test of a type.
abbrev pub has_layer : Shapes → Value-F (Ty → Bool) → Ty-F Ty → Bool
has_layer shapes (Value-F.Int n) Ty-F.Int = fits_int n
has_layer shapes (Value-F.Bool b) Ty-F.Bool = true
has_layer shapes (Value-F.Str text) Ty-F.Str = fits_text text
has_layer shapes (Value-F.Raw bytes) Ty-F.Raw = fits_bytes bytes
has_layer shapes (Value-F.Ident id) Ty-F.Ident = fits_id id
has_layer shapes (Value-F.Enum item ordinal) (Ty-F.Enum other) = (item == other) && is_variant ordinal (shape_at shapes item)
has_layer shapes (Value-F.Struct item tests) (Ty-F.Struct other) = (item == other) && are_fields tests (shape_at shapes item)
has_layer shapes Value-F.Nothing (Ty-F.Optional inner) = true
has_layer shapes (Value-F.Some test) (Ty-F.Optional inner) = test inner
has_layer shapes _ _ = false

-- The value is of the type, with the items of the shapes.
abbrev pub has_type : Shapes → Value → Ty → Bool
has_type shapes = fold-Value (Ty → Bool) (λ value ty. has_layer shapes value (out-Ty ty))
