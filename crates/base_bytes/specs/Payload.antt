-- The spelling of a value in a payload. All numbers are big-endian.
use Rattle.std.specs.Prelude.{◌≡◌, ℕ, ◌^◌, Bool, true, IsTrue, nat_lt, List, [], ◌∷◌, length, map}
use Rattle.std.specs.Int.{w16, w32, w64, to_be_bytes, cast_unsigned}
use Rattle.std.specs.List.{concat, list_all}
use Rattle.base_bytes.specs.declared.shapes.Shapes.{Shapes}
use Rattle.base_bytes.specs.declared.ty.Ty.{Ty}
use Rattle.base_bytes.specs.declared.value.Value.{Value, fold-Value}
use Rattle.base_bytes.specs.declared.value.Value.TheOpen.{Value-F}
use Rattle.base_bytes.specs.Pieces.{counted, flag}
use Rattle.base_bytes.specs.Values.{has_type}

-- One layer, where each value inside is given by its spelling: an int is 8 bytes in two's complement, an enum its ordinal, an optional 0, or 1 and the value, a struct its fields.
abbrev pub spelling_layer : Value-F (List ℕ) → List ℕ
spelling_layer (Value-F.Int n) = to_be_bytes w64 (cast_unsigned w64 n)
spelling_layer (Value-F.Bool b) = flag b
spelling_layer (Value-F.Str text) = counted w32 text
spelling_layer (Value-F.Raw bytes) = counted w32 bytes
spelling_layer (Value-F.Ident id) = id
spelling_layer (Value-F.Enum item ordinal) = to_be_bytes w16 ordinal
spelling_layer (Value-F.Struct item fields) = concat fields
spelling_layer Value-F.Nothing = 0 ∷ []
spelling_layer (Value-F.Some inner) = 1 ∷ inner

-- The one spelling of a value.
abbrev pub spelling : Value → List ℕ
spelling = fold-Value (List ℕ) spelling_layer

-- The spellings of values, one after another.
abbrev pub spelling_all : List Value → List ℕ
spelling_all values = concat (map spelling values)

-- The bytes are the spelling of a value of this type.
pub record IsPayload (shapes : Shapes) (ty : Ty) (value : Value) (bytes : List ℕ) : Type 0 where
  pub typed : IsTrue (has_type shapes value ty)
  pub spelled : bytes ≡ spelling value

-- One layer: each text and each bytes has fewer than 2^32 bytes.
abbrev pub is_short_layer : Value-F Bool → Bool
is_short_layer (Value-F.Str text) = nat_lt (length text) (2 ^ 32)
is_short_layer (Value-F.Raw bytes) = nat_lt (length bytes) (2 ^ 32)
is_short_layer (Value-F.Struct item fields) = list_all (λ is_short. is_short) fields
is_short_layer (Value-F.Some inner) = inner
is_short_layer _ = true

-- Each text and each bytes in the value has fewer than 2^32 bytes, so that its length can be spelled.
abbrev pub is_short : Value → Bool
is_short = fold-Value Bool is_short_layer

-- The same of each value of a list.
abbrev pub are_short : List Value → Bool
are_short values = list_all (λ is_short. is_short) (map is_short values)
